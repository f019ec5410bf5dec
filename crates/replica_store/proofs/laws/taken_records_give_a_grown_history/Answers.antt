use Rattle.replica_views.specs.Growth.{Begun}
use Rattle.replica_views.specs.Views.{beginning}
use Rattle.replica_store.proofs.RecordLemmas.{grown_from}
use Rattle.replica_store.proofs.laws.taken_records_give_a_grown_history.Goals as goal

pub returns : goal.returns
returns c = λ recorded taken. grown_from beginning recorded Begun taken
