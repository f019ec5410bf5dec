use Rattle.std.proofs.Common.{◌≡◌, take}
use Rattle.change_codec.proofs.changes.copied_ops.Given as goal

-- the operations so far are copied
abbrev pub invariant-loop-op : goal.invariant-loop-op
invariant-loop-op l = l.copies.items ≡ take l.op-index l.ops
