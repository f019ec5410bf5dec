use Rattle.std.proofs.Common.{arith}
use Rattle.delta.proofs.BuilderLemmas.{base_length-keep, base_length-insert, base_length-delete}
use Rattle.text_tests.proofs.delta_tests.replacing_each.Goals as goal

pub delete-requires : goal.delete-requires
delete-requires c =
    omega (
      arith,
      c.loop-done.invariant,
      c.ranges.kept,
      c.from.ensures,
      base_length-keep _ _ c.from.result c.in_ok-keep.ensures.ok,
    )

pub loop-done-preserved : goal.loop-done-preserved
loop-done-preserved c =
    omega (
      arith,
      c.loop-done.invariant,
      c.ranges.kept,
      c.from.ensures,
      base_length-keep _ _ c.from.result c.in_ok-keep.ensures.ok,
      base_length-delete _ _ 1 c.in_ok-delete.ensures.ok,
      base_length-insert _ _ c.in_ok-inserted.inserted c.in_ok-insert.ensures.ok,
    )
