use Rattle.replica_text.proofs.OrderOfArrival.{deletion_and_element_commute}
use Rattle.replica_text.proofs.laws.a_deletion_and_an_element_come_in_any_order.Goals as goal

pub returns : goal.returns
returns c = deletion_and_element_commute
