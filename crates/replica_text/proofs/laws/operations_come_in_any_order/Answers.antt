use Rattle.replica_text.proofs.AnyOrder.{any_order}
use Rattle.replica_text.proofs.laws.operations_come_in_any_order.Goals as goal

pub returns : goal.returns
returns c = any_order
