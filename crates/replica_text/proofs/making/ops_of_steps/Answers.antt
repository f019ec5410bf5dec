use Rattle.std.proofs.Common.{◌≡◌, ℕ, ◌+◌, ◌<◌, List, [], ◌∷◌, ◌++◌, length, get_or, drop, subst, sym, ap, ◌∙◌, arith}
use Rattle.std.proofs.lemmas.List.{drop_all, drop_more, append-nil}
use Rattle.delta.specs.Steps.{cells_of, IsCanonical}
use Rattle.delta.specs.declared.steps.DeltaStep.{DeltaStep}
use Rattle.tt_base.specs.declared.ids.ElemId.{ElemId}
use Rattle.tt_base.specs.declared.elements.Element.{Element}
use Rattle.replica_text.specs.Made.{visible_ids, made_ops}
use Rattle.replica_text.specs.Making.{DeletionsFit, step_inserted}
use Rattle.replica_text.proofs.MadeLemmas.{made_at, ids_count, step_more, base_of_first, inserted_of_first}
use Rattle.replica_text.proofs.making.ops_of_steps.Goals as goal

split : (ss : List DeltaStep) (i : ℕ) (s : DeltaStep) → i < length ss → s ≡ get_or ss i s → drop i ss ≡ s ∷ drop (i + 1) ss
split ss i s l is = drop_more ss i s l ∙ ap (λ (x : DeltaStep). x ∷ drop (i + 1) ss) (sym is)

canonical_first : (s : DeltaStep) (rest all : List DeltaStep) → all ≡ s ∷ rest → IsCanonical all → IsCanonical (s ∷ rest)
canonical_first s rest all is h = subst (λ (ss : List DeltaStep). IsCanonical ss) is h

pub loop-step-init : goal.loop-step-init
loop-step-init g c = record {
  whole = ap (λ l. l ++ made_ops (g.E.Elements.elements c.args.elements.now) (cells_of c.args.steps.now) c.args.next) c.new-ops.ensures.items;
  canonical = c.requires.canonical;
  base = omega (arith, c.requires.base);
  fits = c.requires.fits;
  fit = subst DeletionsFit (sym c.new-ops.ensures.items) tt;
}

pub push_step-requires-clause-content : goal.push_step-requires-clause-content
push_step-requires-clause-content g c =
    let steps : List DeltaStep = c.args.steps.now in
    let i : ℕ = c.loop-step.step-index in
    let s : DeltaStep = c.step-item.result in
    (canonical_first s (drop (i + 1) steps) (drop i steps) (split steps i s c.loop-step-test.true c.step-item.is) c.loop-step.invariant.canonical).0.content

pub push_step-requires-clause-within : goal.push_step-requires-clause-within
push_step-requires-clause-within g c =
    let steps : List DeltaStep = c.args.steps.now in
    let i : ℕ = c.loop-step.step-index in
    let s : DeltaStep = c.step-item.result in
    omega (arith, c.loop-step.invariant.base, base_of_first s (drop (i + 1) steps) (drop i steps) (split steps i s c.loop-step-test.true c.step-item.is))

pub push_step-requires-clause-fits : goal.push_step-requires-clause-fits
push_step-requires-clause-fits g c =
    let steps : List DeltaStep = c.args.steps.now in
    let i : ℕ = c.loop-step.step-index in
    let s : DeltaStep = c.step-item.result in
    omega (arith, c.loop-step.invariant.fits, inserted_of_first s (drop (i + 1) steps) (drop i steps) (split steps i s c.loop-step-test.true c.step-item.is))

pub loop-step-preserved : goal.loop-step-preserved
loop-step-preserved g c =
    let elements : List Element = g.E.Elements.elements c.args.elements.now in
    let ids : List ElemId = visible_ids elements in
    let steps : List DeltaStep = c.args.steps.now in
    let i : ℕ = c.loop-step.step-index in
    let s : DeltaStep = c.step-item.result in
    let more : drop i steps ≡ s ∷ drop (i + 1) steps = split steps i s c.loop-step-test.true c.step-item.is in
    let next : c.in_ok-at.at.next.index ≡ c.loop-step.at.next.index + step_inserted s = ap (λ (id : ElemId). id.index) c.in_ok-at.ensures.next in
    record {
      whole =
          step_more s (drop (i + 1) steps) (drop i steps) ids c.loop-step.at.place c.in_ok-at.at.place c.loop-step.at.next c.in_ok-at.at.next
          c.loop-step.ops.items c.push_step.new.ops.items (made_ops elements (cells_of steps) c.args.next) more c.loop-step.invariant.canonical
          (c.loop-step.invariant.base ∙ sym (ids_count elements)) c.in_ok-at.ensures.ops c.in_ok-at.ensures.place c.in_ok-at.ensures.next c.loop-step.invariant.whole;
      canonical = (canonical_first s (drop (i + 1) steps) (drop i steps) more c.loop-step.invariant.canonical).1;
      base = omega (arith, c.loop-step.invariant.base, c.in_ok-at.ensures.place, base_of_first s (drop (i + 1) steps) (drop i steps) more);
      fits = omega (arith, c.loop-step.invariant.fits, next, inserted_of_first s (drop (i + 1) steps) (drop i steps) more);
      fit = c.in_ok-at.ensures.fit c.loop-step.invariant.fit;
    }

pub returns-clause-ops : goal.returns-clause-ops
returns-clause-ops g c =
    let none : drop c.loop-step.step-index c.args.steps.now ≡ [] = drop_all c.loop-step.step-index c.args.steps.now c.loop-step-test.false in
    sym (append-nil c.loop-step.ops.items)
    ∙ ap (λ (ss : List DeltaStep). c.loop-step.ops.items ++ made_at (cells_of ss) (visible_ids (g.E.Elements.elements c.args.elements.now)) c.loop-step.at.place c.loop-step.at.next)
    (sym none)
    ∙ c.loop-step.invariant.whole
