-- The marks that deltas leave, piece by piece.
use Rattle.std.proofs.Common.{◌≡◌, ℕ, zero, suc, ◌+◌, Bool, true, false, List, [], ◌∷◌, ◌++◌, length, map, refl, sym, ap, ◌∙◌, arith, append_assoc, length-append}
use Rattle.std.proofs.lemmas.List.{map-append, length-map}
use Rattle.delta.specs.Cells.{Cell, Cells, keeps, one_if, base_length, result_length, inserts, covers, joined}
use Rattle.delta.specs.Marks.{Mark, New, Place, places, applied_marks, marks_from}

pub keeps-append : {A : Type 0} (k : Bool) (x : A) (a b : List A) → keeps k x (a ++ b) ≡ keeps k x a ++ b
keeps-append true x a b = refl
keeps-append false x a b = refl

pub length-places : (i n : ℕ) → length (places i n) ≡ n
length-places i zero = refl
length-places i (suc n) = ap suc (length-places (suc i) n)

pub applied_marks-inserts : (t : List ℕ) (d : Cells) (marks : List Mark) → applied_marks (inserts t d) marks ≡ map New t ++ applied_marks d marks
applied_marks-inserts t d = by_cells d.cells d.last where
  by_cells : (cs : List Cell) (last : List ℕ) (marks : List Mark)
      → applied_marks (inserts t (record { cells = cs; last = last })) marks ≡ map New t ++ applied_marks (record { cells = cs; last = last }) marks
  by_cells [] last marks = map-append New t last
  by_cells (c ∷ cs) last [] =
      ap (λ l. l ++ applied_marks (record { cells = cs; last = last }) []) (map-append New t c.inserted)
      ∙ append_assoc (map New t) (map New c.inserted) _
  by_cells (c ∷ cs) last (m ∷ marks) =
      ap (λ l. l ++ keeps c.kept m (applied_marks (record { cells = cs; last = last }) marks)) (map-append New t c.inserted)
      ∙ append_assoc (map New t) (map New c.inserted) _

pub applied_marks-kept : (d : Cells) (marks more : List Mark) → applied_marks (covers true (length marks) d) (marks ++ more) ≡ marks ++ applied_marks d more
applied_marks-kept d [] more = refl
applied_marks-kept d (m ∷ marks) more = ap (λ l. m ∷ l) (applied_marks-kept d marks more)

pub applied_marks-deleted : (d : Cells) (marks more : List Mark) → applied_marks (covers false (length marks) d) (marks ++ more) ≡ applied_marks d more
applied_marks-deleted d [] more = refl
applied_marks-deleted d (m ∷ marks) more = applied_marks-deleted d marks more

pub marks_from-inserts : (i : ℕ) (t : List ℕ) (d : Cells) → marks_from i (inserts t d) ≡ map New t ++ marks_from i d
marks_from-inserts i t d = by_cells d.cells d.last where
  by_cells : (cs : List Cell) (last : List ℕ) → marks_from i (inserts t (record { cells = cs; last = last })) ≡ map New t ++ marks_from i (record { cells = cs; last = last })
  by_cells [] last = map-append New t last
  by_cells (c ∷ cs) last =
      ap (λ l. l ++ keeps c.kept (Place i) (marks_from (suc i) (record { cells = cs; last = last }))) (map-append New t c.inserted)
      ∙ append_assoc (map New t) (map New c.inserted) _

pub marks_from-kept : (i n : ℕ) (d : Cells) → marks_from i (covers true n d) ≡ places i n ++ marks_from (i + n) d
marks_from-kept i zero d = let same : i ≡ i + 0 = omega arith in ap (λ j. marks_from j d) same
marks_from-kept i (suc n) d =
    let same : suc i + n ≡ i + suc n = omega arith in
    ap (λ l. Place i ∷ l) (marks_from-kept (suc i) n d)
    ∙ ap (λ j. Place i ∷ (places (suc i) n ++ marks_from j d)) same

pub marks_from-deleted : (i n : ℕ) (d : Cells) → marks_from i (covers false n d) ≡ marks_from (i + n) d
marks_from-deleted i zero d = let same : i ≡ i + 0 = omega arith in ap (λ j. marks_from j d) same
marks_from-deleted i (suc n) d =
    let same : suc i + n ≡ i + suc n = omega arith in
    marks_from-deleted (suc i) n d ∙ ap (λ j. marks_from j d) same

pub marks_from-joined : (i : ℕ) (d e : Cells) → marks_from i (joined d e) ≡ marks_from i d ++ marks_from (i + base_length d) e
marks_from-joined i d e = by_cells i d.cells d.last where
  by_cells : (i : ℕ) (cs : List Cell) (last : List ℕ) → marks_from i (joined (record { cells = cs; last = last }) e) ≡ marks_from i (record { cells = cs; last = last }) ++ marks_from (i + length cs) e
  by_cells i [] last =
      let same : i ≡ i + 0 = omega arith in
      marks_from-inserts i last e ∙ ap (λ j. map New last ++ marks_from j e) same
  by_cells i (c ∷ cs) last =
      let same : suc i + length cs ≡ i + suc (length cs) = omega arith in
      let d' : Cells = record { cells = cs; last = last } in
      ap (λ l. map New c.inserted ++ keeps c.kept (Place i) l) (by_cells (suc i) cs last)
      ∙ ap (λ j. map New c.inserted ++ keeps c.kept (Place i) (marks_from (suc i) d' ++ marks_from j e)) same
      ∙ ap (λ l. map New c.inserted ++ l) (keeps-append c.kept (Place i) (marks_from (suc i) d') (marks_from (i + suc (length cs)) e))
      ∙ sym (append_assoc (map New c.inserted) (keeps c.kept (Place i) (marks_from (suc i) d')) (marks_from (i + suc (length cs)) e))

pub length-keeps : {A : Type 0} (k : Bool) (x : A) (xs : List A) → length (keeps k x xs) ≡ one_if k + length xs
length-keeps true x xs = omega arith
length-keeps false x xs = omega arith

-- as many marks are left as the result has characters
pub length-marks_from : (i : ℕ) (d : Cells) → length (marks_from i d) ≡ result_length d
length-marks_from i d = by_cells i d.cells d.last where
  by_cells : (i : ℕ) (cs : List Cell) (last : List ℕ) → length (marks_from i (record { cells = cs; last = last })) ≡ result_length (record { cells = cs; last = last })
  by_cells i [] last = length-map last New
  by_cells i (c ∷ cs) last =
      let rest : List Mark = marks_from (suc i) (record { cells = cs; last = last }) in
      omega (arith, length-append (map New c.inserted) (keeps c.kept (Place i) rest), length-map c.inserted New, length-keeps c.kept (Place i) rest, by_cells (suc i) cs last)
