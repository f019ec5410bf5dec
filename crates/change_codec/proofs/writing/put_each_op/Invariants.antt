use Rattle.std.proofs.Common.{◌≡◌, ◌++◌, take}
use Rattle.std.specs.List.{flat_map}
use Rattle.change_codec.specs.Encoding.{op_field}
use Rattle.change_codec.proofs.writing.put_each_op.Given as goal

-- the operations so far are written
abbrev pub invariant-loop-op : goal.invariant-loop-op
invariant-loop-op l = l.out.items ≡ l.fn.out.items ++ flat_map op_field.spelled (take l.op-index l.ops)
