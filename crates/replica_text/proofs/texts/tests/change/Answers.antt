use Rattle.std.proofs.Common.{ap, arith}
use Rattle.delta.specs.Cells.{base_length}
use Rattle.delta.proofs.BuilderLemmas.{base_length-keep, base_length-insert, base_length-delete}
use Rattle.replica_text.proofs.texts.tests.change.Goals as goal

pub delete-requires : goal.delete-requires
delete-requires c = omega (arith, c.loop-done.invariant, base_length-keep _ _ 3 c.in_ok-keep.ensures.ok)

pub loop-done-init : goal.loop-done-init
loop-done-init c = omega (arith, ap base_length c.in_ok-builder.ensures, base_length-insert _ _ _ c.in_ok-insert.ensures.ok)

pub loop-done-preserved : goal.loop-done-preserved
loop-done-preserved c =
    omega (
      arith,
      c.loop-done.invariant,
      base_length-keep _ _ 3 c.in_ok-keep.ensures.ok,
      base_length-delete _ _ 2 c.in_ok-delete.ensures.ok,
      base_length-insert _ _ _ c.in_ok-insert-2.ensures.ok,
    )
