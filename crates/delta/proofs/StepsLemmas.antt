-- Lists of steps: side by side, in canonical form, and that a delta has one of them.
use Rattle.std.proofs.Common.{◌≡◌, ℕ, zero, suc, ◌<◌, Bool, true, false, List, [], ◌∷◌, ◌++◌, length, ◌==◌, refl, sym, ap, ◌∙◌, arith}
use Rattle.std.proofs.lemmas.List.{append-nil}
use Rattle.std.proofs.lemmas.Bool.{ne_eqb, and_left}
use Rattle.std.specs.List.{list_all}
use Rattle.delta.specs.Cells.{Cell, Cells, front, inserts, covers, joined, nothing, deleting, IsNormal, changes_nothing}
use Rattle.delta.specs.Steps.{after_step, cells_of, MayFollow, MayLead, IsCanonical, is_keep}
use Rattle.delta.specs.declared.steps.DeltaStep.{DeltaStep}
use Rattle.delta.specs.declared.steps.DeltaStep.TheVariants.{Keep, Insert, Delete}
use Rattle.delta.proofs.CellsLemmas.{inserts_none, joined-inserts, joined-covers}

pub joined-after_step : (s : DeltaStep) (d e : Cells) → joined (after_step s d) e ≡ after_step s (joined d e)
joined-after_step (Keep n) d e = joined-covers true n d e
joined-after_step (Insert text) d e = joined-inserts text d e
joined-after_step (Delete n) d e = joined-covers false n d e

pub cells_of-append : (ss ts : List DeltaStep) → cells_of (ss ++ ts) ≡ joined (cells_of ss) (cells_of ts)
cells_of-append [] ts = sym (inserts_none (cells_of ts))
cells_of-append (s ∷ ss) ts = ap (after_step s) (cells_of-append ss ts) ∙ sym (joined-after_step s (cells_of ss) (cells_of ts))

-- the steps of a delta, read off cell by cell
abbrev more_kept : List DeltaStep → List DeltaStep
more_kept [] = Keep 1 ∷ []
more_kept (Keep n ∷ ss) = Keep (suc n) ∷ ss
more_kept (Insert text ∷ ss) = Keep 1 ∷ (Insert text ∷ ss)
more_kept (Delete n ∷ ss) = Keep 1 ∷ (Delete n ∷ ss)

abbrev more_deleted : List DeltaStep → List DeltaStep
more_deleted [] = Delete 1 ∷ []
more_deleted (Keep n ∷ ss) = Delete 1 ∷ (Keep n ∷ ss)
more_deleted (Insert text ∷ ss) = Delete 1 ∷ (Insert text ∷ ss)
more_deleted (Delete n ∷ ss) = Delete (suc n) ∷ ss

abbrev with_text : List ℕ → List DeltaStep → List DeltaStep
with_text [] ss = ss
with_text (c ∷ text) ss = Insert (c ∷ text) ∷ ss

abbrev with_place : Bool → List DeltaStep → List DeltaStep
with_place true ss = more_kept ss
with_place false ss = more_deleted ss

abbrev steps_of : List Cell → List ℕ → List DeltaStep
steps_of [] last = with_text last []
steps_of (c ∷ cs) last = with_text c.inserted (with_place c.kept (steps_of cs last))

abbrev steps_for : Cells → List DeltaStep
steps_for d = steps_of d.cells d.last

steps_for-kept : (n : ℕ) (d : Cells) (ss : List DeltaStep) → steps_for d ≡ ss → MayLead (Keep (suc n)) ss → steps_for (covers true (suc n) d) ≡ Keep (suc n) ∷ ss
steps_for-kept zero d [] e h = ap more_kept e
steps_for-kept zero d (Keep m ∷ ss) e h = absurd h
steps_for-kept zero d (Insert text ∷ ss) e h = ap more_kept e
steps_for-kept zero d (Delete m ∷ ss) e h = ap more_kept e
steps_for-kept (suc n) d ss e h = ap more_kept (steps_for-kept n d ss e (by_steps ss h)) where
  by_steps : (ss : List DeltaStep) → MayLead (Keep (suc (suc n))) ss → MayLead (Keep (suc n)) ss
  by_steps [] h = tt
  by_steps (Keep m ∷ ss) h = absurd h
  by_steps (Insert text ∷ ss) h = tt
  by_steps (Delete m ∷ ss) h = tt

steps_for-deleted : (n : ℕ) (d : Cells) (ss : List DeltaStep) → steps_for d ≡ ss → MayLead (Delete (suc n)) ss → steps_for (covers false (suc n) d) ≡ Delete (suc n) ∷ ss
steps_for-deleted zero d [] e h = ap more_deleted e
steps_for-deleted zero d (Keep m ∷ ss) e h = ap more_deleted e
steps_for-deleted zero d (Insert text ∷ ss) e h = absurd h
steps_for-deleted zero d (Delete m ∷ ss) e h = absurd h
steps_for-deleted (suc n) d ss e h = ap more_deleted (steps_for-deleted n d ss e (by_steps ss h)) where
  by_steps : (ss : List DeltaStep) → MayLead (Delete (suc (suc n))) ss → MayLead (Delete (suc n)) ss
  by_steps [] h = tt
  by_steps (Keep m ∷ ss) h = tt
  by_steps (Insert text ∷ ss) h = absurd h
  by_steps (Delete m ∷ ss) h = absurd h

-- no text stands in front of a run
pub front-covers : (k : Bool) (n : ℕ) (d : Cells) → 0 < n → front (covers k n d) ≡ []
front-covers k zero d some = absurd (omega (arith, some))
front-covers k (suc n) d some = refl

-- behind an insertion or a deletion no text stands in front
pub no_front : (s : DeltaStep) (ss : List DeltaStep) → IsCanonical ss → ((t : List ℕ) → MayFollow s (Insert t) → ⊥) → MayLead s ss → front (cells_of ss) ≡ []
no_front s [] h none lead = refl
no_front s (Keep zero ∷ ss) h none lead = absurd (omega (arith, h.0.content))
no_front s (Keep (suc n) ∷ ss) h none lead = refl
no_front s (Insert text ∷ ss) h none lead = absurd (none text lead)
no_front s (Delete zero ∷ ss) h none lead = absurd (omega (arith, h.0.content))
no_front s (Delete (suc n) ∷ ss) h none lead = refl

steps_for-inserted : (c : ℕ) (t : List ℕ) (d : Cells) → front d ≡ [] → steps_for (inserts (c ∷ t) d) ≡ Insert (c ∷ t) ∷ steps_for d
steps_for-inserted c t d h = by_cells d.cells d.last h where
  by_cells : (cs : List Cell) (last : List ℕ) → front (record { cells = cs; last = last }) ≡ []
      → steps_for (inserts (c ∷ t) (record { cells = cs; last = last })) ≡ Insert (c ∷ t) ∷ steps_for (record { cells = cs; last = last })
  by_cells [] last h = ap (λ l. Insert (c ∷ (t ++ l)) ∷ []) h ∙ ap (λ l. Insert (c ∷ l) ∷ []) (append-nil t) ∙ ap (λ l. Insert (c ∷ t) ∷ with_text l []) (sym h)
  by_cells (e ∷ cs) last h =
      let rest : List DeltaStep = with_place e.kept (steps_of cs last) in
      ap (λ l. Insert (c ∷ (t ++ l)) ∷ rest) h ∙ ap (λ l. Insert (c ∷ l) ∷ rest) (append-nil t) ∙ ap (λ l. Insert (c ∷ t) ∷ with_text l rest) (sym h)

steps_for-cells_of : (ss : List DeltaStep) → IsCanonical ss → steps_for (cells_of ss) ≡ ss
steps_for-cells_of [] h = refl
steps_for-cells_of (Keep zero ∷ ss) h = absurd (omega (arith, h.0.content))
steps_for-cells_of (Keep (suc n) ∷ ss) h = steps_for-kept n (cells_of ss) ss (steps_for-cells_of ss h.1) h.0.leads
steps_for-cells_of (Insert [] ∷ ss) h = absurd (omega (arith, h.0.content))
steps_for-cells_of (Insert (c ∷ t) ∷ ss) h =
    steps_for-inserted c t (cells_of ss) (no_front (Insert (c ∷ t)) ss h.1 (λ _ no. no) h.0.leads)
    ∙ ap (λ l. Insert (c ∷ t) ∷ l) (steps_for-cells_of ss h.1)
steps_for-cells_of (Delete zero ∷ ss) h = absurd (omega (arith, h.0.content))
steps_for-cells_of (Delete (suc n) ∷ ss) h = steps_for-deleted n (cells_of ss) ss (steps_for-cells_of ss h.1) h.0.leads

pub one_list_of_steps : (ss ts : List DeltaStep) → IsCanonical ss → IsCanonical ts → cells_of ss ≡ cells_of ts → ss ≡ ts
one_list_of_steps ss ts h k e = sym (steps_for-cells_of ss h) ∙ ap steps_for e ∙ steps_for-cells_of ts k

pub IsNormal-kept : (n : ℕ) (d : Cells) → IsNormal d → IsNormal (covers true n d)
IsNormal-kept zero d h = h
IsNormal-kept (suc n) d h = (tt, IsNormal-kept n d h)

pub IsNormal-deleted : (n : ℕ) (d : Cells) → IsNormal d → front d ≡ [] → IsNormal (covers false n d)
IsNormal-deleted zero d h none = h
IsNormal-deleted (suc zero) d h none = (none, h)
IsNormal-deleted (suc (suc n)) d h none = (refl, IsNormal-deleted (suc n) d h none)

pub IsNormal-inserted : (t : List ℕ) (d : Cells) → IsNormal d → IsNormal (inserts t d)
IsNormal-inserted t d h = by_cells d.cells d.last h where
  by_cells : (cs : List Cell) (last : List ℕ) → IsNormal (record { cells = cs; last = last }) → IsNormal (inserts t (record { cells = cs; last = last }))
  by_cells [] last h = tt
  by_cells (c ∷ cs) last h = h

pub IsNormal-replacing_all : (new : List ℕ) (n : ℕ) → IsNormal (inserts new (deleting n))
IsNormal-replacing_all new n = IsNormal-inserted new (deleting n) (IsNormal-deleted n nothing tt refl)

pub IsNormal-cells_of : (ss : List DeltaStep) → IsCanonical ss → IsNormal (cells_of ss)
IsNormal-cells_of [] h = tt
IsNormal-cells_of (Keep n ∷ ss) h = IsNormal-kept n (cells_of ss) (IsNormal-cells_of ss h.1)
IsNormal-cells_of (Insert t ∷ ss) h = IsNormal-inserted t (cells_of ss) (IsNormal-cells_of ss h.1)
IsNormal-cells_of (Delete n ∷ ss) h =
    IsNormal-deleted n (cells_of ss) (IsNormal-cells_of ss h.1) (no_front (Delete n) ss h.1 (λ _ no. no) h.0.leads)

changes_nothing-kept : (n : ℕ) (d : Cells) → changes_nothing (covers true n d) ≡ changes_nothing d
changes_nothing-kept zero d = refl
changes_nothing-kept (suc n) d = changes_nothing-kept n d

changes_nothing-inserted : (c : ℕ) (t : List ℕ) (d : Cells) → changes_nothing (inserts (c ∷ t) d) ≡ false
changes_nothing-inserted c t d = by_cells d.cells d.last where
  some : (last : List ℕ) → (length (c ∷ (t ++ last)) == 0) ≡ false
  some last = ne_eqb (length (c ∷ (t ++ last))) 0 (λ e. absurd (omega (arith, e)))

  by_cells : (cs : List Cell) (last : List ℕ) → changes_nothing (inserts (c ∷ t) (record { cells = cs; last = last })) ≡ false
  by_cells [] last = some last
  by_cells (e ∷ cs) last = and_left _ _ (some e.inserted)

-- a delta changes nothing where each of its steps keeps characters
pub changes_nothing-cells_of : (ss : List DeltaStep) → IsCanonical ss → list_all is_keep ss ≡ changes_nothing (cells_of ss)
changes_nothing-cells_of [] h = refl
changes_nothing-cells_of (Keep n ∷ ss) h = changes_nothing-cells_of ss h.1 ∙ sym (changes_nothing-kept n (cells_of ss))
changes_nothing-cells_of (Insert [] ∷ ss) h = absurd (omega (arith, h.0.content))
changes_nothing-cells_of (Insert (c ∷ t) ∷ ss) h = sym (changes_nothing-inserted c t (cells_of ss))
changes_nothing-cells_of (Delete zero ∷ ss) h = absurd (omega (arith, h.0.content))
changes_nothing-cells_of (Delete (suc n) ∷ ss) h = refl
