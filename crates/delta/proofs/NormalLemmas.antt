-- The normal form is what the marks of a delta are read as.
use Rattle.std.proofs.Common.{◌≡◌, ℕ, zero, suc, ◌≤◌, Bool, true, false, eqb, List, [], ◌∷◌, ◌++◌, length, map, refl, sym, ap, ◌∙◌, subst, arith, append_assoc}
use Rattle.std.proofs.lemmas.Bool.{eq-eqb, ne_eqb}
use Rattle.std.proofs.lemmas.List.{append-nil, map-append}
use Rattle.delta.specs.Cells.{Cell, Cells, ends, with_cell, keeps, base_length, result_length, front, with_front_text, inserts, normal_with_cell, normal, no_text_behind, IsNormal}
use Rattle.delta.specs.Marks.{Mark, New, Place, places, applied_marks, marks_from, run, is_next, behind, behind_place, delta_from}
use Rattle.delta.proofs.MarksLemmas.{applied_marks-inserts, length-marks_from}

-- all places among the marks are i or later
abbrev pub AreFrom : ℕ → List Mark → Type 0
AreFrom i [] = Unit {0}
AreFrom i (New c ∷ marks) = AreFrom i marks
AreFrom i (Place j ∷ marks) = (i ≤ j) × AreFrom i marks

AreFrom-new : (i : ℕ) (t : List ℕ) (marks : List Mark) → AreFrom i marks → AreFrom i (map New t ++ marks)
AreFrom-new i [] marks h = h
AreFrom-new i (c ∷ t) marks h = AreFrom-new i t marks h

AreFrom-later : (i : ℕ) (marks : List Mark) → AreFrom (suc i) marks → AreFrom i marks
AreFrom-later i [] h = tt
AreFrom-later i (New c ∷ marks) h = AreFrom-later i marks h
AreFrom-later i (Place j ∷ marks) h = (omega (arith, h.0), AreFrom-later i marks h.1)

pub AreFrom-marks_from : (i : ℕ) (d : Cells) → AreFrom i (marks_from i d)
AreFrom-marks_from i d = by_cells i d.cells d.last where
  at_place : (i : ℕ) (k : Bool) (marks : List Mark) → AreFrom (suc i) marks → AreFrom i (keeps k (Place i) marks)
  at_place i true marks h = (omega arith, AreFrom-later i marks h)
  at_place i false marks h = AreFrom-later i marks h

  all_new : (i : ℕ) (t : List ℕ) → AreFrom i (map New t)
  all_new i [] = tt
  all_new i (c ∷ t) = all_new i t

  by_cells : (i : ℕ) (cs : List Cell) (last : List ℕ) → AreFrom i (marks_from i (record { cells = cs; last = last }))
  by_cells i [] last = all_new i last
  by_cells i (c ∷ cs) last =
      AreFrom-new i c.inserted _ (at_place i c.kept (marks_from (suc i) (record { cells = cs; last = last })) (by_cells (suc i) cs last))

run-new : (t : List ℕ) (marks : List Mark) → run (map New t ++ marks) ≡ t ++ run marks
run-new [] marks = refl
run-new (c ∷ t) marks = ap (λ l. c ∷ l) (run-new t marks)

is_next-new : (i : ℕ) (t : List ℕ) (marks : List Mark) → is_next i (map New t ++ marks) ≡ is_next i marks
is_next-new i [] marks = refl
is_next-new i (c ∷ t) marks = is_next-new i t marks

behind-new : (i : ℕ) (t : List ℕ) (marks : List Mark) → behind i (map New t ++ marks) ≡ behind i marks
behind-new i [] marks = refl
behind-new i (c ∷ t) marks = behind-new i t marks

is_next-later : (i : ℕ) (marks : List Mark) → AreFrom (suc i) marks → is_next i marks ≡ false
is_next-later i [] h = refl
is_next-later i (New c ∷ marks) h = is_next-later i marks h
is_next-later i (Place j ∷ marks) h = ne_eqb j i (λ e. absurd (omega (arith, e, h.0)))

-- the marks behind the new characters in front
abbrev strip : List Mark → List Mark
strip [] = []
strip (New c ∷ marks) = strip marks
strip (Place j ∷ marks) = Place j ∷ marks

behind-later : (i : ℕ) (marks : List Mark) → AreFrom (suc i) marks → behind i marks ≡ strip marks
behind-later i [] h = refl
behind-later i (New c ∷ marks) h = behind-later i marks h
behind-later i (Place j ∷ marks) h =
    ap (λ b. behind_place b (Place j) marks) (ne_eqb j i (λ e. absurd (omega (arith, e, h.0))))

run-strip : (marks : List Mark) → run (strip marks) ≡ []
run-strip [] = refl
run-strip (New c ∷ marks) = run-strip marks
run-strip (Place j ∷ marks) = refl

is_next-strip : (i : ℕ) (marks : List Mark) → is_next i (strip marks) ≡ is_next i marks
is_next-strip i [] = refl
is_next-strip i (New c ∷ marks) = is_next-strip i marks
is_next-strip i (Place j ∷ marks) = refl

behind-strip : (i : ℕ) (marks : List Mark) → behind i (strip marks) ≡ behind i marks
behind-strip i [] = refl
behind-strip i (New c ∷ marks) = behind-strip i marks
behind-strip i (Place j ∷ marks) = refl

front-delta_from : (i n : ℕ) (marks : List Mark) → front (delta_from i n marks) ≡ run marks
front-delta_from i zero marks = refl
front-delta_from i (suc n) marks = refl

with_front_text-delta_from : (i n : ℕ) (marks : List Mark) → with_front_text [] (delta_from i n marks) ≡ delta_from i n (strip marks)
with_front_text-delta_from i zero marks = ap ends (sym (run-strip marks))
with_front_text-delta_from i (suc n) marks =
    ap (λ t. with_cell t (is_next i marks) (delta_from (suc i) n (behind i marks))) (sym (run-strip marks))
    ∙ ap (λ b. with_cell (run (strip marks)) b (delta_from (suc i) n (behind i marks))) (sym (is_next-strip i marks))
    ∙ ap (λ l. with_cell (run (strip marks)) (is_next i (strip marks)) (delta_from (suc i) n l)) (sym (behind-strip i marks))

-- one cell, read from its marks before those of the rest
normal_with_cell-delta_from : (i n : ℕ) (t : List ℕ) (k : Bool) (marks : List Mark) → AreFrom (suc i) marks
    → delta_from i (suc n) (map New t ++ keeps k (Place i) marks) ≡ normal_with_cell t k (delta_from (suc i) n marks)
normal_with_cell-delta_from i n t true marks h =
    let all : List Mark = map New t ++ (Place i ∷ marks) in
    let here : eqb i i ≡ true = eq-eqb i i refl in
    ap (λ l. with_cell l (is_next i all) (delta_from (suc i) n (behind i all))) (run-new t (Place i ∷ marks) ∙ append-nil t)
    ∙ ap (λ b. with_cell t b (delta_from (suc i) n (behind i all))) (is_next-new i t (Place i ∷ marks) ∙ here)
    ∙ ap (λ l. with_cell t true (delta_from (suc i) n l)) (behind-new i t (Place i ∷ marks) ∙ ap (λ b. behind_place b (Place i) marks) here)
normal_with_cell-delta_from i n t false marks h =
    let all : List Mark = map New t ++ marks in
    ap (λ l. with_cell l (is_next i all) (delta_from (suc i) n (behind i all))) (run-new t marks ∙ ap (λ l. t ++ l) (sym (front-delta_from (suc i) n marks)))
    ∙ ap (λ b. with_cell (t ++ front (delta_from (suc i) n marks)) b (delta_from (suc i) n (behind i all))) (is_next-new i t marks ∙ is_next-later i marks h)
    ∙ ap (λ l. with_cell (t ++ front (delta_from (suc i) n marks)) false (delta_from (suc i) n l)) (behind-new i t marks ∙ behind-later i marks h)
    ∙ ap (λ e. with_cell (t ++ front (delta_from (suc i) n marks)) false e) (sym (with_front_text-delta_from (suc i) n marks))

run-all : (t : List ℕ) → run (map New t) ≡ t
run-all [] = refl
run-all (c ∷ t) = ap (λ l. c ∷ l) (run-all t)

pub delta_from-marks_from : (i : ℕ) (d : Cells) → delta_from i (base_length d) (marks_from i d) ≡ normal d
delta_from-marks_from i d = by_cells i d.cells d.last where
  by_cells : (i : ℕ) (cs : List Cell) (last : List ℕ) → delta_from i (length cs) (marks_from i (record { cells = cs; last = last })) ≡ normal (record { cells = cs; last = last })
  by_cells i [] last = ap ends (run-all last)
  by_cells i (c ∷ cs) last =
      let rest : Cells = record { cells = cs; last = last } in
      normal_with_cell-delta_from i (length cs) c.inserted c.kept (marks_from (suc i) rest) (AreFrom-marks_from (suc i) rest)
      ∙ ap (normal_with_cell c.inserted c.kept) (by_cells (suc i) cs last)

-- the text at gap 0 may be taken off and put back
pub inserts-front : (d : Cells) → inserts (front d) (with_front_text [] d) ≡ d
inserts-front d = by_cells d.cells d.last where
  by_cells : (cs : List Cell) (last : List ℕ) → inserts (front (record { cells = cs; last = last })) (with_front_text [] (record { cells = cs; last = last })) ≡ record { cells = cs; last = last }
  by_cells [] last = ap ends (append-nil last)
  by_cells (c ∷ cs) last = ap (λ t. with_cell t c.kept (record { cells = cs; last = last })) (append-nil c.inserted)

pub front-inserts : (t : List ℕ) (d : Cells) → front (inserts t d) ≡ t ++ front d
front-inserts t d = by_cells d.cells d.last where
  by_cells : (cs : List Cell) (last : List ℕ) → front (inserts t (record { cells = cs; last = last })) ≡ t ++ front (record { cells = cs; last = last })
  by_cells [] last = refl
  by_cells (c ∷ cs) last = refl

applied_marks-front : (d : Cells) (marks : List Mark) → map New (front d) ++ applied_marks (with_front_text [] d) marks ≡ applied_marks d marks
applied_marks-front d marks =
    sym (applied_marks-inserts (front d) (with_front_text [] d) marks) ∙ ap (λ e. applied_marks e marks) (inserts-front d)

-- a deleted place, whose text is followed by that of the rest
applied_marks-moved : (t : List ℕ) (d : Cells) (marks : List Mark) → map New (t ++ front d) ++ applied_marks (with_front_text [] d) marks ≡ map New t ++ applied_marks d marks
applied_marks-moved t d marks =
    ap (λ l. l ++ applied_marks (with_front_text [] d) marks) (map-append New t (front d))
    ∙ append_assoc (map New t) (map New (front d)) (applied_marks (with_front_text [] d) marks)
    ∙ ap (λ l. map New t ++ l) (applied_marks-front d marks)

applied_marks-normal_with_cell : (t : List ℕ) (k : Bool) (d : Cells) (m : Mark) (marks : List Mark)
    → applied_marks (normal_with_cell t k d) (m ∷ marks) ≡ map New t ++ keeps k m (applied_marks d marks)
applied_marks-normal_with_cell t true d m marks = refl
applied_marks-normal_with_cell t false d m marks = applied_marks-moved t d marks

applied_marks-normal_with_cell_short : (t : List ℕ) (k : Bool) (d : Cells) → applied_marks (normal_with_cell t k d) [] ≡ map New t ++ applied_marks d []
applied_marks-normal_with_cell_short t true d = refl
applied_marks-normal_with_cell_short t false d = applied_marks-moved t d []

-- the normal form leaves of any marks what the delta leaves
pub applied_marks-normal : (d : Cells) (marks : List Mark) → applied_marks (normal d) marks ≡ applied_marks d marks
applied_marks-normal d marks = by_cells d.cells d.last marks where
  by_cells : (cs : List Cell) (last : List ℕ) (marks : List Mark) → applied_marks (normal (record { cells = cs; last = last })) marks ≡ applied_marks (record { cells = cs; last = last }) marks
  by_cells [] last marks = refl
  by_cells (c ∷ cs) last [] =
      applied_marks-normal_with_cell_short c.inserted c.kept (normal (record { cells = cs; last = last }))
      ∙ ap (λ l. map New c.inserted ++ l) (by_cells cs last [])
  by_cells (c ∷ cs) last (m ∷ marks) =
      applied_marks-normal_with_cell c.inserted c.kept (normal (record { cells = cs; last = last })) m marks
      ∙ ap (λ l. map New c.inserted ++ keeps c.kept m l) (by_cells cs last marks)

base_length-with_front_text : (t : List ℕ) (d : Cells) → base_length (with_front_text t d) ≡ base_length d
base_length-with_front_text t d = by_cells d.cells d.last where
  by_cells : (cs : List Cell) (last : List ℕ) → base_length (with_front_text t (record { cells = cs; last = last })) ≡ length cs
  by_cells [] last = refl
  by_cells (c ∷ cs) last = refl

base_length-normal_with_cell : (t : List ℕ) (k : Bool) (d : Cells) → base_length (normal_with_cell t k d) ≡ suc (base_length d)
base_length-normal_with_cell t true d = refl
base_length-normal_with_cell t false d = ap suc (base_length-with_front_text [] d)

pub base_length-normal : (d : Cells) → base_length (normal d) ≡ base_length d
base_length-normal d = by_cells d.cells d.last where
  by_cells : (cs : List Cell) (last : List ℕ) → base_length (normal (record { cells = cs; last = last })) ≡ length cs
  by_cells [] last = refl
  by_cells (c ∷ cs) last = base_length-normal_with_cell c.inserted c.kept (normal (record { cells = cs; last = last })) ∙ ap suc (by_cells cs last)

pub marks_from-normal : (i : ℕ) (d : Cells) → marks_from i (normal d) ≡ marks_from i d
marks_from-normal i d =
    ap (λ n. applied_marks (normal d) (places i n)) (base_length-normal d) ∙ applied_marks-normal d (places i (base_length d))

-- two deltas that leave the same marks have one normal form
pub same_normal : (d e : Cells) → base_length d ≡ base_length e → marks_from 0 d ≡ marks_from 0 e → normal d ≡ normal e
same_normal d e lengths marks =
    sym (delta_from-marks_from 0 d)
    ∙ ap (λ n. delta_from 0 n (marks_from 0 d)) lengths
    ∙ ap (delta_from 0 (base_length e)) marks
    ∙ delta_from-marks_from 0 e

pub normal-normal : (d : Cells) → normal (normal d) ≡ normal d
normal-normal d = same_normal (normal d) d (base_length-normal d) (marks_from-normal 0 d)

normal_with_cell-normal : (t : List ℕ) (k : Bool) (cs : List Cell) (last : List ℕ) → no_text_behind k (front (record { cells = cs; last = last }))
    → normal_with_cell t k (record { cells = cs; last = last }) ≡ with_cell t k (record { cells = cs; last = last })
normal_with_cell-normal t true cs last h = refl
normal_with_cell-normal t false [] last h = ap (λ l. with_cell (t ++ l) false (ends [])) h ∙ ap (λ l. with_cell l false (ends [])) (append-nil t) ∙ ap (λ l. with_cell t false (ends l)) (sym h)
normal_with_cell-normal t false (c ∷ cs) last h =
    let rest : Cells = record { cells = cs; last = last } in
    ap (λ l. with_cell (t ++ l) false (with_cell [] c.kept rest)) h
    ∙ ap (λ l. with_cell l false (with_cell [] c.kept rest)) (append-nil t)
    ∙ ap (λ l. with_cell t false (with_cell l c.kept rest)) (sym h)

pub normal_is_fixed : (d : Cells) → IsNormal d → normal d ≡ d
normal_is_fixed d = by_cells d.cells d.last where
  by_cells : (cs : List Cell) (last : List ℕ) → IsNormal (record { cells = cs; last = last }) → normal (record { cells = cs; last = last }) ≡ record { cells = cs; last = last }
  by_cells [] last h = refl
  by_cells (c ∷ cs) last h =
      ap (normal_with_cell c.inserted c.kept) (by_cells cs last h.1) ∙ normal_with_cell-normal c.inserted c.kept cs last h.0

is_next-behind : (i : ℕ) (marks : List Mark) → is_next i marks ≡ false → behind i marks ≡ strip marks
is_next-behind i [] h = refl
is_next-behind i (New c ∷ marks) h = is_next-behind i marks h
is_next-behind i (Place j ∷ marks) h = ap (λ b. behind_place b (Place j) marks) h

pub IsNormal-delta_from : (i n : ℕ) (marks : List Mark) → IsNormal (delta_from i n marks)
IsNormal-delta_from i zero marks = tt
IsNormal-delta_from i (suc n) marks = (
  by_next (is_next i marks) refl,
  IsNormal-delta_from (suc i) n (behind i marks),
) where
  by_next : (k : Bool) → is_next i marks ≡ k → no_text_behind k (front (delta_from (suc i) n (behind i marks)))
  by_next true h = tt
  by_next false h = front-delta_from (suc i) n (behind i marks) ∙ ap run (is_next-behind i marks h) ∙ run-strip marks

pub IsNormal-normal : (d : Cells) → IsNormal (normal d)
IsNormal-normal d = subst IsNormal (delta_from-marks_from 0 d) (IsNormal-delta_from 0 (base_length d) (marks_from 0 d))

pub result_length-normal : (d : Cells) → result_length (normal d) ≡ result_length d
result_length-normal d = sym (length-marks_from 0 (normal d)) ∙ ap length (marks_from-normal 0 d) ∙ length-marks_from 0 d
