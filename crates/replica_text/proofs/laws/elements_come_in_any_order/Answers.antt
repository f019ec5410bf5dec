use Rattle.replica_text.proofs.OrderOfArrival.{elements_commute}
use Rattle.replica_text.proofs.laws.elements_come_in_any_order.Goals as goal

pub returns : goal.returns
returns c = elements_commute
