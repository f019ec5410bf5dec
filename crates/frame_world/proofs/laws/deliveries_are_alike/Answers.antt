use Rattle.frame_world.proofs.DeliveryLemmas.{deliveries_are_alike}
use Rattle.frame_world.proofs.laws.deliveries_are_alike.Goals as goal

pub returns : goal.returns
returns c = deliveries_are_alike
