-- A normal delta has steps, so what holds of the steps of a delta holds of each normal delta.
use Rattle.std.proofs.Common.{◌≡◌, ℕ, suc, ◌+◌, Bool, true, false, List, [], ◌∷◌, length, Ok, refl, sym, ap, subst, ◌∙◌, arith, length-append}
use Rattle.std.proofs.lemmas.List.{append-nil}
use Rattle.delta.specs.Cells.{Cell, Cells, with_cell, base_length, front, inserts, no_text_behind, IsNormal}
use Rattle.delta.specs.Steps.{cells_of, MayLead, IsCanonical}
use Rattle.delta.specs.declared.steps.DeltaStep.{DeltaStep}
use Rattle.delta.specs.declared.steps.DeltaStep.TheVariants.{Keep, Insert, Delete}
use Rattle.delta.proofs.NormalLemmas.{front-inserts}
use Rattle.text_position.specs.Edits.{delta_of_edits}
use Rattle.text_position.specs.Changes.{edits_of, AreApart}
use Rattle.text_position.proofs.RoundTripLemmas.{round_trip}
use Rattle.text_position.proofs.ApartLemmas.{edits_of-apart}

record HasSteps (d : Cells) : Type 0 where
  steps : List DeltaStep
  canonical : IsCanonical steps
  cells : cells_of steps ≡ d

-- steps that an insertion may stand before
record HasPlaces (d : Cells) : Type 0 where
  steps : List DeltaStep
  canonical : IsCanonical steps
  lead : (text : List ℕ) → MayLead (Insert text) steps
  cells : cells_of steps ≡ d

kept_place : (ss : List DeltaStep) → IsCanonical ss → HasPlaces (with_cell [] true (cells_of ss))
kept_place [] h = record { steps = Keep 1 ∷ []; canonical = (record { content = omega arith; leads = tt }, tt); lead = λ text. tt; cells = refl }
kept_place (Keep n ∷ ss) h = record { steps = Keep (suc n) ∷ ss; canonical = (record { content = omega arith; leads = by_steps ss h.0.leads }, h.1); lead = λ text. tt; cells = refl } where
  by_steps : (ss : List DeltaStep) → MayLead (Keep n) ss → MayLead (Keep (suc n)) ss
  by_steps [] h = tt
  by_steps (Keep m ∷ ss) h = absurd h
  by_steps (Insert text ∷ ss) h = tt
  by_steps (Delete m ∷ ss) h = tt
kept_place (Insert t ∷ ss) h = record { steps = Keep 1 ∷ (Insert t ∷ ss); canonical = (record { content = omega arith; leads = tt }, h); lead = λ text. tt; cells = refl }
kept_place (Delete n ∷ ss) h = record { steps = Keep 1 ∷ (Delete n ∷ ss); canonical = (record { content = omega arith; leads = tt }, h); lead = λ text. tt; cells = refl }

deleted_place : (ss : List DeltaStep) → IsCanonical ss → front (cells_of ss) ≡ [] → HasPlaces (with_cell [] false (cells_of ss))
deleted_place [] h none = record { steps = Delete 1 ∷ []; canonical = (record { content = omega arith; leads = tt }, tt); lead = λ text. tt; cells = refl }
deleted_place (Keep n ∷ ss) h none = record { steps = Delete 1 ∷ (Keep n ∷ ss); canonical = (record { content = omega arith; leads = tt }, h); lead = λ text. tt; cells = refl }
deleted_place (Insert t ∷ ss) h none =
    absurd (omega (arith, h.0.content, ap length (sym (front-inserts t (cells_of ss)) ∙ none), length-append t (front (cells_of ss))))
deleted_place (Delete n ∷ ss) h none = record { steps = Delete (suc n) ∷ ss; canonical = (record { content = omega arith; leads = by_steps ss h.0.leads }, h.1); lead = λ text. tt; cells = refl } where
  by_steps : (ss : List DeltaStep) → MayLead (Delete n) ss → MayLead (Delete (suc n)) ss
  by_steps [] h = tt
  by_steps (Keep m ∷ ss) h = tt
  by_steps (Insert text ∷ ss) h = absurd h
  by_steps (Delete m ∷ ss) h = absurd h

place_of : (kept : Bool) (d : Cells) → HasSteps d → no_text_behind kept (front d) → HasPlaces (with_cell [] kept d)
place_of true d h normal =
    let P = λ (e : Cells). HasPlaces (with_cell [] true e) in subst P h.cells (kept_place h.steps h.canonical)
place_of false d h none =
    let P = λ (e : Cells). HasPlaces (with_cell [] false e) in
    subst P h.cells (deleted_place h.steps h.canonical (ap front h.cells ∙ none))

with_text : (text : List ℕ) (kept : Bool) (d : Cells) → HasPlaces (with_cell [] kept d) → HasSteps (with_cell text kept d)
with_text [] kept d h = record { steps = h.steps; canonical = h.canonical; cells = h.cells }
with_text (c ∷ text) kept d h = record {
  steps = Insert (c ∷ text) ∷ h.steps;
  canonical = (record { content = omega arith; leads = h.lead (c ∷ text) }, h.canonical);
  cells =
      ap (inserts (c ∷ text)) h.cells ∙ ap (λ t. with_cell t kept d) (append-nil (c ∷ text));
}

has_steps : (d : Cells) → IsNormal d → HasSteps d
has_steps d h = by_cells d.cells d.last h where
  by_cells : (cs : List Cell) (last : List ℕ) → IsNormal (record { cells = cs; last = last }) → HasSteps (record { cells = cs; last = last })
  by_cells [] [] h = record { steps = []; canonical = tt; cells = refl }
  by_cells [] (c ∷ text) h = record {
    steps = Insert (c ∷ text) ∷ [];
    canonical = (record { content = omega arith; leads = tt }, tt);
    cells = ap (λ t. record { cells = []; last = t }) (append-nil (c ∷ text));
  }
  by_cells (c ∷ cs) last h =
      let rest : Cells = record { cells = cs; last = last } in
      with_text c.inserted c.kept rest (place_of c.kept rest (by_cells cs last h.1) h.0)

pub delta_comes_back : (text : List ℕ) (d : Cells) → IsNormal d → base_length d ≡ length text → delta_of_edits text (edits_of text d) ≡ Ok d
delta_comes_back text d h long =
    let s = has_steps d h in
    ap (λ e. delta_of_edits text (edits_of text e)) (sym s.cells)
    ∙ round_trip text s.steps s.canonical (ap base_length s.cells ∙ long)
    ∙ ap Ok s.cells

pub edits_are_apart : (text : List ℕ) (d : Cells) → IsNormal d → base_length d ≡ length text → AreApart text (length text + 1) (edits_of text d)
edits_are_apart text d h long =
    let s = has_steps d h in
    let P : Cells → Type 0 = λ e. AreApart text (length text + 1) (edits_of text e) in
    subst P s.cells (edits_of-apart text s.steps s.canonical (ap base_length s.cells ∙ long))
