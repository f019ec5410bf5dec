use Rattle.std.proofs.Common.{◌≡◌, ◌-◌, ℕ, Some, ap, ap₂, ◌∙◌, arith}
use Rattle.tt_base.specs.declared.edits.Position.{Position}
use Rattle.text_position.specs.Places.{line_start}
use Rattle.text_position.proofs.LineLemmas.{has-start}
use Rattle.text_position.proofs.places.position_at.Goals as goal

pub overflow_sub-result : goal.overflow_sub-result
overflow_sub-result c =
    let h = has-start c.args.text.now c.args.offset c.requires in
    let found : Some c.in-Some.start ≡ Some h.start = c.in-Some.ensures ∙ ap (line_start c.args.text.now) c.line_ends_before-line.ensures ∙ h.start_is in
    let same : c.in-Some.start ≡ h.start = cc in
    omega (arith, same, h.within)

pub unreachable-requires : goal.unreachable-requires
unreachable-requires c =
    let h = has-start c.args.text.now c.args.offset c.requires in
    let found = c.in-None.ensures ∙ ap (line_start c.args.text.now) c.line_ends_before-line.ensures ∙ h.start_is in cc found

pub returns : goal.returns
returns c =
    let h = has-start c.args.text.now c.args.offset c.requires in
    let found : Some c.in-Some.start ≡ Some h.start = c.in-Some.ensures ∙ ap (line_start c.args.text.now) c.line_ends_before-line.ensures ∙ h.start_is in
    let same : c.in-Some.start ≡ h.start = cc in
    let make : ℕ → ℕ → Position = λ l k. record { line = l; character = k } in
    ap₂ make c.line_ends_before-line.ensures (ap (λ s. c.args.offset - s) same) ∙ h.position_is
