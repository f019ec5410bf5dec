-- The transforms gap by gap: a gap moves by what the other delta keeps and inserts before it.
use Rattle.std.specs.Prelude.{ℕ, zero, suc, ◌+◌, Bool, true, false, ◌&&◌, ◌==◌, not, List, [], ◌∷◌, ◌++◌, length, map, if◌then◌else◌}
use Rattle.std.specs.List.{list_any}
use Rattle.delta.specs.Cells.{Cell, Cells, base_length, result_length, one_if, ends, with_cell, normal}

abbrev pub text_at_of : List Cell → List ℕ → ℕ → List ℕ
text_at_of [] last i = last
text_at_of (c ∷ cs) last zero = c.inserted
text_at_of (c ∷ cs) last (suc i) = text_at_of cs last i

-- the text that a delta inserts at gap i
abbrev pub text_at : Cells → ℕ → List ℕ
text_at d i = text_at_of d.cells d.last i

abbrev pub keeps_place_of : List Cell → ℕ → Bool
keeps_place_of [] i = false
keeps_place_of (c ∷ cs) zero = c.kept
keeps_place_of (c ∷ cs) (suc i) = keeps_place_of cs i

-- whether a delta keeps place i
abbrev pub keeps_place : Cells → ℕ → Bool
keeps_place d i = keeps_place_of d.cells i

abbrev pub kept_below_of : List Cell → ℕ → ℕ
kept_below_of [] i = 0
kept_below_of (c ∷ cs) zero = 0
kept_below_of (c ∷ cs) (suc i) = one_if c.kept + kept_below_of cs i

-- how many places below i a delta keeps
abbrev pub kept_below : Cells → ℕ → ℕ
kept_below d i = kept_below_of d.cells i

abbrev pub inserted_below_of : List Cell → ℕ → ℕ
inserted_below_of [] i = 0
inserted_below_of (c ∷ cs) zero = 0
inserted_below_of (c ∷ cs) (suc i) = length c.inserted + inserted_below_of cs i

-- how many characters a delta inserts at gaps below i
abbrev pub inserted_below : Cells → ℕ → ℕ
inserted_below d i = inserted_below_of d.cells i

-- how many characters a delta inserts at gaps up to i
abbrev pub inserted_to : Cells → ℕ → ℕ
inserted_to d i = inserted_below d i + length (text_at d i)

-- the n numbers from i on
abbrev pub numbers : ℕ → ℕ → List ℕ
numbers i zero = []
numbers i (suc n) = i ∷ numbers (suc i) n

-- a text of a delta, and the gap that it moves to
pub record Moved : Type 0 where
  pub gap : ℕ
  pub text : List ℕ

-- the texts of a delta, from gap 0 on, with the gaps that they move to
abbrev pub moved_texts : (ℕ → ℕ) → Cells → List Moved
moved_texts to d = map (λ i. record { gap = to i; text = text_at d i }) (numbers 0 (suc (base_length d)))

abbrev pub with_if : Bool → ℕ → List ℕ → List ℕ
with_if true i is = i ∷ is
with_if false i is = is

-- where the numbers move to that pass a test
abbrev pub moved_if : (ℕ → Bool) → (ℕ → ℕ) → List ℕ → List ℕ
moved_if test to [] = []
moved_if test to (i ∷ is) = with_if (test i) (to i) (moved_if test to is)

-- where the places move to that a delta deletes and the other keeps
abbrev pub moved_places : (ℕ → ℕ) → Cells → Cells → List ℕ
moved_places to d other =
    moved_if (λ i. keeps_place other i && not (keeps_place d i)) to (numbers 0 (base_length d))

-- the texts that move to gap g, joined in the order of the gaps that they come from
abbrev pub texts_at : ℕ → List Moved → List ℕ
texts_at g [] = []
texts_at g (m ∷ moved) = (if m.gap == g then m.text else []) ++ texts_at g moved

-- the delta on the n places from g on that inserts these texts and deletes these places
abbrev pub delta_with : ℕ → ℕ → List Moved → List ℕ → Cells
delta_with g zero texts deleted = ends (texts_at g texts)
delta_with g (suc n) texts deleted =
    with_cell (texts_at g texts) (not (list_any (λ j. j == g) deleted)) (delta_with (suc g) n texts deleted)

-- the editor's p past the daemon's q: a gap moves by what q keeps before it and inserts up to it
abbrev pub editor_by_gaps : Cells → Cells → Cells
editor_by_gaps p q =
    let to : ℕ → ℕ = λ i. kept_below q i + inserted_to q i in
    normal (delta_with 0 (result_length q) (moved_texts to p) (moved_places to p q))

-- the daemon's q past the editor's p: a gap moves by what p keeps and inserts before it, and a place
-- also by what p inserts at the gap before it
abbrev pub daemon_by_gaps : Cells → Cells → Cells
daemon_by_gaps q p =
    let gap_to : ℕ → ℕ = λ i. kept_below p i + inserted_below p i in
    let place_to : ℕ → ℕ = λ i. kept_below p i + inserted_to p i in
    normal (delta_with 0 (result_length p) (moved_texts gap_to q) (moved_places place_to q p))
