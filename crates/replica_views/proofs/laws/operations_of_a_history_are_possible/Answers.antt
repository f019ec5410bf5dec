use Rattle.replica_views.proofs.StepLemmas.{grown_may}
use Rattle.replica_views.proofs.laws.operations_of_a_history_are_possible.Goals as goal

pub returns : goal.returns
returns c = grown_may
