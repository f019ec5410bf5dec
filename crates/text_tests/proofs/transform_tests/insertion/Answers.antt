-- The base is what was kept so far, and both runs are short.
use Rattle.std.proofs.Common.{true, ap, arith}
use Rattle.delta.specs.Cells.{base_length, keeping, inserting, nothing}
use Rattle.delta.proofs.CellsLemmas.{base_length-joined, base_length-covers}
use Rattle.text_tests.proofs.transform_tests.insertion.Goals as goal

pub keep-requires-2 : goal.keep-requires-2
keep-requires-2 c =
    omega (
      arith,
      c.ranges.before,
      c.ranges.behind,
      c.from.ensures,
      c.from-2.ensures,
      ap base_length c.in_ok-insert.ensures.ok,
      base_length-joined c.keep.new.self (inserting c.in_ok-from_str.field-0),
      ap base_length c.in_ok-keep.ensures.ok,
      base_length-joined c.in_ok-builder.builder
          (keeping c.from.result),
      base_length-covers true c.from.result nothing,
      ap base_length c.in_ok-builder.ensures,
    )
