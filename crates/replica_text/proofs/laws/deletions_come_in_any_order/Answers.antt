use Rattle.replica_text.proofs.OrderOfArrival.{deletions_commute}
use Rattle.replica_text.proofs.laws.deletions_come_in_any_order.Goals as goal

pub returns : goal.returns
returns c = deletions_commute
