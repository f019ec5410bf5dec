use Rattle.std.proofs.Common.{◌≡◌, ◌+◌, List, [], ◌++◌, length, drop, map, reverse, Ok, subst, sym, ap, ◌∙◌, arith}
use Rattle.std.proofs.lemmas.List.{drop_all}
use Rattle.delta.specs.Cells.{Cells, base_length}
use Rattle.delta.specs.Steps.{cells_of, IsCanonical}
use Rattle.delta.specs.declared.steps.DeltaStep.{DeltaStep}
use Rattle.tt_base.specs.declared.edits.TextEdit.{TextEdit}
use Rattle.delta.proofs.ApplyLemmas.{base_length-step}
use Rattle.text_position.specs.Changes.{edit_for, edits_of, changes_of, AreApart}
use Rattle.text_position.specs.Edits.{delta_of_edits}
use Rattle.text_position.specs.Writing.{changes_ahead}
use Rattle.text_position.proofs.ChangesLemmas.{written_more, changes_of-cells_of}
use Rattle.text_position.proofs.ApartLemmas.{edits_of-apart}
use Rattle.text_position.proofs.RoundTripLemmas.{round_trip}
use Rattle.text_position.proofs.delta_edits.to_edits.Goals as goal

pub write_step-requires-clause-within : goal.write_step-requires-clause-within
write_step-requires-clause-within c =
    omega (arith, c.loop-step.invariant.base, base_length-step c.as_slice-step-items.result.now c.loop-step.step-index c.step-item.result c.loop-step-test.true c.step-item.is)

pub loop-step-preserved : goal.loop-step-preserved
loop-step-preserved c =
    let steps = c.as_slice-step-items.result.now in
    let i = c.loop-step.step-index in record {
      whole =
          written_more c.args.text.now c.loop-step.gap.place c.in_ok-gap.gap.place c.loop-step.gap.waiting.now c.in_ok-gap.gap.waiting.now c.loop-step.edits.items
          c.write_step.new.edits.items _ steps i c.step-item.result c.loop-step-test.true c.step-item.is c.in_ok-gap.ensures.edits c.in_ok-gap.ensures.place
          c.in_ok-gap.ensures.waiting c.loop-step.invariant.whole;
      base =
          omega (arith, c.loop-step.invariant.base, c.in_ok-gap.ensures.place, base_length-step steps i c.step-item.result c.loop-step-test.true c.step-item.is);
    }

pub returns : goal.returns
returns c =
    let steps = c.as_slice-step-items.result.now in
    let chars = c.args.text.now in
    let none : drop c.loop-step.step-index steps ≡ [] = drop_all c.loop-step.step-index steps c.loop-step-test.false in
    let P : List DeltaStep → Type 0 = λ ss. IsCanonical ss in
    let canonical : IsCanonical steps = subst P (sym c.as_slice-step-items.ensures) c.steps.ensures.canonical in
    let cells : cells_of steps ≡ c.args.d.now = ap cells_of c.as_slice-step-items.ensures ∙ c.steps.ensures.cells in
    let written : c.push_waiting.new.edits.items ≡ map (edit_for c.args.text.now) (changes_of c.args.d.now) =
    c.in_ok-push_waiting.ensures
    ∙ ap (λ ss. c.loop-step.edits.items ++ map (edit_for chars) (changes_ahead c.loop-step.gap.place c.loop-step.gap.waiting.now ss)) (sym none)
    ∙ c.loop-step.invariant.whole
    ∙ ap (map (edit_for chars)) (changes_of-cells_of steps canonical ∙ ap changes_of cells) in
    let edits : c.from_vec.result ≡ edits_of c.args.text.now c.args.d.now = c.from_vec.ensures ∙ c.reverse.ensures.items ∙ ap reverse written in
    let long : base_length (cells_of steps) ≡ length c.args.text.now = ap base_length cells ∙ c.requires in
    let Apart : Cells → Type 0 = λ d. AreApart c.args.text.now (length c.args.text.now + 1) (edits_of c.args.text.now d) in
    let AllApart : List TextEdit → Type 0 = λ es. AreApart c.args.text.now (length c.args.text.now + 1) es in
    record {
      edits = edits;
      apart = subst AllApart (sym edits) (subst Apart cells (edits_of-apart c.args.text.now steps canonical long));
      round_trip =
          ap (delta_of_edits c.args.text.now) (edits ∙ ap (edits_of c.args.text.now) (sym cells))
          ∙ round_trip c.args.text.now steps canonical long
          ∙ ap Ok cells;
    }
