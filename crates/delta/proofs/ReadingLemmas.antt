-- A step is its front part, and then what is left of it.
use Rattle.std.proofs.Common.{◌≡◌, ℕ, ◌+◌, ◌-◌, ◌≤◌, true, false, List, [], ◌∷◌, take, drop, Some, sym, ap, subst, ◌∙◌, arith}
use Rattle.std.proofs.lemmas.List.{take-append-drop, drop-drop, length-drop}
use Rattle.std.specs.List.{slice_get}
use Rattle.delta.specs.Cells.{covers, inserts}
use Rattle.delta.specs.Steps.{after_step, cells_of, IsCanonical}
use Rattle.delta.specs.Reading.{step_size, rest_of_step, steps_left, front_part, first_size}
use Rattle.delta.specs.declared.steps.DeltaStep.{DeltaStep}
use Rattle.delta.specs.declared.steps.DeltaStep.TheVariants.{Keep, Insert, Delete}
use Rattle.delta.proofs.CellsLemmas.{covers-covers, inserts-inserts}

pub step_in_parts : (s : DeltaStep) (ss : List DeltaStep) (used count : ℕ) → count ≤ step_size (rest_of_step used s)
    → cells_of (steps_left used (s ∷ ss)) ≡ after_step (front_part count (steps_left used (s ∷ ss))) (cells_of (steps_left (used + count) (s ∷ ss)))
step_in_parts (Keep n) ss used count h =
    let same : n - used ≡ count + (n - (used + count)) = omega arith in
    ap (λ m. covers true m (cells_of ss)) same ∙ sym (covers-covers true count (n - (used + count)) (cells_of ss))
step_in_parts (Insert t) ss used count h =
    ap (λ u. inserts u (cells_of ss)) (sym (take-append-drop count (drop used t)))
    ∙ sym (inserts-inserts (take count (drop used t)) (drop count (drop used t)) (cells_of ss))
    ∙ ap (λ u. inserts (take count (drop used t)) (inserts u (cells_of ss))) (drop-drop count used t)
step_in_parts (Delete n) ss used count h =
    let same : n - used ≡ count + (n - (used + count)) = omega arith in
    ap (λ m. covers false m (cells_of ss)) same ∙ sym (covers-covers false count (n - (used + count)) (cells_of ss))

-- the first step of a list, from which used characters were read
pub advance_cells : (ss v : List DeltaStep) (s : DeltaStep) (used count : ℕ) → Some s ≡ slice_get ss 0 → steps_left used ss ≡ v → count ≤ first_size v
    → cells_of v ≡ after_step (front_part count v) (cells_of (steps_left (used + count) ss))
advance_cells [] v s used count is left h = cc
advance_cells (x ∷ ss) v s used count is left h =
    let P : List DeltaStep → Type 0 = λ w. count ≤ first_size w → cells_of w ≡ after_step (front_part count w) (cells_of (steps_left (used + count) (x ∷ ss))) in
    subst P left (step_in_parts x ss used count) h

pub advance_size : (ss v : List DeltaStep) (s : DeltaStep) (used count : ℕ) → Some s ≡ slice_get ss 0 → steps_left used ss ≡ v → IsCanonical v → count ≤ first_size v → used + count ≤ step_size s
advance_size [] v s used count is left h le = cc
advance_size (x ∷ ss) v s used count is left h le =
    let P : List DeltaStep → Type 0 = λ w. IsCanonical w → count ≤ first_size w → used + count ≤ step_size x in
    let same : s ≡ x = cc in
    subst (λ y. used + count ≤ step_size y) (sym same) (subst P left (by_step x) h le) where
      by_step : (x : DeltaStep) → IsCanonical (steps_left used (x ∷ ss)) → count ≤ first_size (steps_left used (x ∷ ss)) → used + count ≤ step_size x
      by_step (Keep n) h le = omega (arith, h.0.content, le)
      by_step (Insert t) h le = omega (arith, h.0.content, le, length-drop used t)
      by_step (Delete n) h le = omega (arith, h.0.content, le)
