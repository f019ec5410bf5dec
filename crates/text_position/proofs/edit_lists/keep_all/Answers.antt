use Rattle.std.proofs.Common.{ap, ◌∙◌}
use Rattle.delta.specs.Cells.{nothing, keeping, normal}
use Rattle.delta.proofs.NormalLemmas.{normal_is_fixed}
use Rattle.delta.proofs.StepsLemmas.{IsNormal-kept}
use Rattle.text_position.proofs.EditLemmas.{built_keep}
use Rattle.text_position.proofs.edit_lists.keep_all.Goals as goal

pub returns : goal.returns
returns c =
    c.in_ok-delta.ensures
    ∙ ap normal (built_keep c.args.size _ _ c.in_ok-built.ensures c.in_ok-keep.ensures.ok)
    ∙ normal_is_fixed (keeping c.args.size) (IsNormal-kept c.args.size nothing tt)
