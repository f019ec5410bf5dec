use Rattle.std.proofs.Common.{◌≡◌, ◌-◌, List, None}
use Rattle.std.specs.Option.{option_map}
use Rattle.tt_base.specs.declared.ids.Name.{Name}
use Rattle.byte_format.specs.Lists.{chain, just}
use Rattle.byte_format.specs.Values.{any_name, next_name}
use Rattle.byte_format.specs.Read.{IsKept}
use Rattle.byte_format.proofs.Loops.{behind_values}
use Rattle.byte_format.proofs.names.read_rising.Given as goal

-- the names read, in front of those still to be read, are all; they are kept unless memory ran out
abbrev pub invariant-loop : goal.invariant-loop
invariant-loop l = record {
  front : List Name;
  in_front : behind_values front ((chain any_name next_name just l.before (l.count - l.counter)).reads l.rest) ≡ (chain any_name next_name just None l.count).reads l.bytes;
  is_kept : IsKept (option_map (λ v. v.items) l.names) front;
}
