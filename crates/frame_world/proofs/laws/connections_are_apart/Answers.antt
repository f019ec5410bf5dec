use Rattle.frame_world.proofs.ConnectionLemmas.{connections_are_alike}
use Rattle.frame_world.proofs.laws.connections_are_apart.Goals as goal

pub returns : goal.returns
returns c = connections_are_alike
