use Rattle.std.proofs.Common.{refl, ap, ◌∙◌}
use Rattle.delta.specs.Cells.{joined, inserting, deleting, inserts, nothing, normal}
use Rattle.delta.proofs.StepsLemmas.{IsNormal-inserted, IsNormal-deleted}
use Rattle.delta.proofs.NormalLemmas.{normal_is_fixed}
use Rattle.delta.proofs.composition.replace_all.Goals as goal

pub returns : goal.returns
returns c =
    let text = c.args.new.now in
    let old = c.args.old in
    c.in_ok-delta.ensures
    ∙ ap normal (c.in_ok-delete.ensures.ok
    ∙ ap (λ d. joined d (deleting old)) (c.in_ok-insert.ensures.ok ∙ ap (λ d. joined d (inserting text)) c.in_ok-built.ensures))
    ∙ normal_is_fixed (inserts text (deleting old)) (IsNormal-inserted text (deleting old) (IsNormal-deleted old nothing tt refl))
