use Rattle.frame_world.proofs.HandledLemmas.{handlings_are_alike}
use Rattle.frame_world.proofs.laws.handlings_are_alike.Goals as goal

pub returns : goal.returns
returns c = handlings_are_alike
