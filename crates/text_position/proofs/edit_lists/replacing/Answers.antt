use Rattle.std.proofs.Common.{◌-◌, ap, ◌∙◌, arith}
use Rattle.delta.specs.Cells.{base_length, normal}
use Rattle.delta.proofs.NormalLemmas.{normal_is_fixed}
use Rattle.text_position.specs.Edits.{replacing}
use Rattle.delta.proofs.BuilderLemmas.{base_length-keep, base_length-insert, base_length-delete}
use Rattle.text_position.proofs.EditLemmas.{built_change, IsNormal-replacing}
use Rattle.text_position.proofs.edit_lists.replacing.Goals as goal

pub delete-requires : goal.delete-requires
delete-requires c =
    omega (
      arith,
      c.ranges.end.fits,
      c.requires.forward,
      ap base_length c.in_ok-built.ensures,
      base_length-keep _ _ c.args.start c.in_ok-keep.ensures.ok,
      base_length-insert _ _ c.args.replacement.now c.in_ok-insert.ensures.ok,
    )

pub keep-requires-2 : goal.keep-requires-2
keep-requires-2 c =
    omega (
      arith,
      c.ranges.size.fits,
      c.requires.forward,
      c.requires.within,
      ap base_length c.in_ok-built.ensures,
      base_length-keep _ _ c.args.start c.in_ok-keep.ensures.ok,
      base_length-insert _ _ c.args.replacement.now c.in_ok-insert.ensures.ok,
      base_length-delete _ _ (c.args.end - c.args.start) c.in_ok-delete.ensures.ok,
    )

pub returns : goal.returns
returns c =
    let text = c.args.replacement.now in
    c.in_ok-delta.ensures
    ∙ ap normal (built_change c.args.start (c.args.end - c.args.start) (c.args.size - c.args.end) text _ _ _ _ _
    c.in_ok-built.ensures c.in_ok-keep.ensures.ok c.in_ok-insert.ensures.ok c.in_ok-delete.ensures.ok c.in_ok-keep-2.ensures.ok)
    ∙ normal_is_fixed (replacing c.args.size c.args.start c.args.end text) (IsNormal-replacing c.args.size c.args.start c.args.end text)
