use Rattle.frame_world.proofs.OwnLemmas.{own_steps}
use Rattle.frame_world.proofs.laws.own_steps_are_alike.Goals as goal

pub returns : goal.returns
returns c = own_steps
