use Rattle.std.proofs.Common.{drop}
use Rattle.change_making.proofs.WrittenLemmas.{Pushes}
use Rattle.change_making.proofs.writing.push_written.Given as goal

abbrev pub invariant-loop-op : goal.invariant-loop-op
invariant-loop-op l = Pushes l.object l.text_ops l.fn.ops.items l.ops.items (drop l.op-index l.text_ops)
