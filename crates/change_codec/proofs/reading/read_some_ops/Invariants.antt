use Rattle.std.proofs.Common.{◌≡◌, ◌-◌, List}
use Rattle.std.specs.Option.{option_map}
use Rattle.byte_format.specs.Lists.{many}
use Rattle.byte_format.specs.Read.{IsKept}
use Rattle.byte_format.proofs.Loops.{behind_values}
use Rattle.change_codec.specs.declared.ops.Op.{Op}
use Rattle.change_codec.specs.Encoding.{any_op, op_field}
use Rattle.change_codec.proofs.reading.read_some_ops.Given as goal

-- the operations read, in front of those still to be read, are all; they are kept unless memory ran out
abbrev pub invariant-loop : goal.invariant-loop
invariant-loop l = record {
  front : List Op;
  in_front : behind_values front ((many any_op op_field (l.count - l.counter)).reads l.rest) ≡ (many any_op op_field l.count).reads l.bytes;
  is_kept : IsKept (option_map (λ v. v.items) l.ops) front;
}
