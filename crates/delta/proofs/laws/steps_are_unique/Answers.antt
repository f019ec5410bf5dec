use Rattle.delta.proofs.StepsLemmas.{one_list_of_steps}
use Rattle.delta.proofs.laws.steps_are_unique.Goals as goal

pub returns : goal.returns
returns c = one_list_of_steps
