-- What a composition inserts, and so what a list of edits does.
use Rattle.std.proofs.Common.{◌≡◌, ℕ, zero, suc, ◌+◌, ◌-◌, Bool, true, false, ◌==◌, List, [], ◌∷◌, ◌++◌, map, length, Ok, refl, subst}
use Rattle.std.specs.Cmp.Derive.{both_true}
use Rattle.std.specs.List.{AllByRecursion}
use Rattle.std.specs.Str.{all_scalars}
use Rattle.std.proofs.lemmas.Bool.{and_parts}
use Rattle.tt_base.specs.declared.edits.TextEdit.{TextEdit}
use Rattle.delta.specs.Cells.{Cell, Cells, base_length, covers, inserts, keeping, keeps, nothing, applied}
use Rattle.delta.specs.Marks.{Mark, New, Place, places, applied_marks_of, applied_marks, marks_of, run, behind, behind_place, delta_from, composed}
use Rattle.text_position.specs.Edits.{replacing, range_of, delta_of_edit, with_edits, delta_of_edits}
use Rattle.daemon_history.specs.Bounds.{InsertsScalarsOf, InsertsScalars}
use Rattle.editor_texts.specs.Scalars.{ReplacesByScalars}
use Rattle.editor_texts.proofs.DeltaScalars.{covers_scalars, inserts_scalars}
use Rattle.editor_texts.proofs.Steps.{ok_is, then_ended}

-- the new characters among the marks are scalar values
abbrev AreScalars : List Mark → Type 0
AreScalars [] = Unit {0}
AreScalars (New c ∷ marks) = (all_scalars (c ∷ []) ≡ true) × AreScalars marks
AreScalars (Place i ∷ marks) = AreScalars marks

new_scalars : (text : List ℕ) (marks : List Mark) → all_scalars text ≡ true → AreScalars marks → AreScalars (map New text ++ marks)
new_scalars [] marks scalars is = is
new_scalars (c ∷ text) marks scalars is =
    let parts = and_parts _ (all_scalars text) scalars in
    (both_true parts.0 refl, new_scalars text marks parts.1 is)

new_alone : (text : List ℕ) → all_scalars text ≡ true → AreScalars (map New text)
new_alone [] scalars = tt
new_alone (c ∷ text) scalars =
    let parts = and_parts _ (all_scalars text) scalars in
    (both_true parts.0 refl, new_alone text parts.1)

places_scalars : (i n : ℕ) → AreScalars (places i n)
places_scalars i zero = tt
places_scalars i (suc n) = places_scalars (suc i) n

kept_scalars : (kept : Bool) (m : Mark) (marks rest : List Mark) → AreScalars (m ∷ marks) → AreScalars rest → AreScalars (keeps kept m rest)
kept_scalars true (New c) marks rest is others = (is.0, others)
kept_scalars true (Place i) marks rest is others = others
kept_scalars false m marks rest is others = others

rest_scalars : (m : Mark) (marks : List Mark) → AreScalars (m ∷ marks) → AreScalars marks
rest_scalars (New c) marks is = is.1
rest_scalars (Place i) marks is = is

applied_scalars : (cells : List Cell) (last : List ℕ) (marks : List Mark) → InsertsScalarsOf cells last → AreScalars marks
    → AreScalars (applied_marks_of cells last marks)
applied_scalars [] last marks is scalars = new_alone last is
applied_scalars (c ∷ cells) last [] is scalars = new_scalars c.inserted _ is.0 (applied_scalars cells last [] is.1 tt)
applied_scalars (c ∷ cells) last (m ∷ marks) is scalars =
    new_scalars c.inserted _ is.0 (kept_scalars c.kept m marks _ scalars (applied_scalars cells last marks is.1 (rest_scalars m marks scalars)))

run_scalars : (marks : List Mark) → AreScalars marks → all_scalars (run marks) ≡ true
run_scalars [] is = refl
run_scalars (New c ∷ marks) is = both_true (and_parts _ true is.0).0 (run_scalars marks is.1)
run_scalars (Place i ∷ marks) is = refl

behind_place_scalars : (same : Bool) (i : ℕ) (marks : List Mark) → AreScalars marks → AreScalars (behind_place same (Place i) marks)
behind_place_scalars true i marks is = is
behind_place_scalars false i marks is = is

behind_scalars : (i : ℕ) (marks : List Mark) → AreScalars marks → AreScalars (behind i marks)
behind_scalars i [] is = tt
behind_scalars i (New c ∷ marks) is = behind_scalars i marks is.1
behind_scalars i (Place j ∷ marks) is = behind_place_scalars (j == i) j marks is

read_scalars : (i n : ℕ) (marks : List Mark) → AreScalars marks → InsertsScalars (delta_from i n marks)
read_scalars i zero marks is = run_scalars marks is
read_scalars i (suc n) marks is = (run_scalars marks is, read_scalars (suc i) n (behind i marks) (behind_scalars i marks is))

composed_scalars : (first second : Cells) → InsertsScalars first → InsertsScalars second → InsertsScalars (composed first second)
composed_scalars first second is also =
    let marks = applied_scalars first.cells first.last (places 0 (base_length first)) is (places_scalars 0 (base_length first)) in
    read_scalars 0 (base_length first) (applied_marks second (marks_of first)) (applied_scalars second.cells second.last (marks_of first) also marks)

-- ---- edits

replacing_scalars : (size start end : ℕ) (text : List ℕ) → all_scalars text ≡ true → InsertsScalars (replacing size start end text)
replacing_scalars size start end text scalars =
    let kept = covers_scalars true (size - end) nothing refl in
    covers_scalars true start (inserts text (covers false (end - start) (keeping (size - end))))
    (inserts_scalars text _ scalars (covers_scalars false (end - start) (keeping (size - end)) kept))

edit_scalars : (index : ℕ) (text : List ℕ) (edit : TextEdit) (d : Cells) → ReplacesByScalars edit → delta_of_edit index text edit ≡ Ok d → InsertsScalars d
edit_scalars index text edit d scalars is =
    then_ended (range_of index text edit) (λ range. Ok (replacing (length text) range.0 range.1 edit.replacement)) d (InsertsScalars d)
    (λ range found same. subst InsertsScalars (ok_is _ d same) (replacing_scalars (length text) range.0 range.1 edit.replacement scalars)) is

more_scalars : (index : ℕ) (text : List ℕ) (so_far : Cells) (edits : List TextEdit) (d : Cells) → InsertsScalars so_far
    → AllByRecursion ReplacesByScalars edits → with_edits index text so_far edits ≡ Ok d → InsertsScalars d
more_scalars index text so_far [] d is all same = subst InsertsScalars (ok_is so_far d same) is
more_scalars index text so_far (edit ∷ edits) d is all same =
    then_ended (delta_of_edit index (applied so_far text) edit) (λ e. with_edits (index + 1) text (composed so_far e) edits) d (InsertsScalars d)
    (λ e found rest. more_scalars (index + 1) text (composed so_far e) edits d
    (composed_scalars so_far e is (edit_scalars index (applied so_far text) edit e all.0 found)) all.1 rest) same

pub edits_scalars : (text : List ℕ) (edits : List TextEdit) (d : Cells) → AllByRecursion ReplacesByScalars edits → delta_of_edits text edits ≡ Ok d → InsertsScalars d
edits_scalars text edits d all is = more_scalars 0 text (keeping (length text)) edits d (covers_scalars true (length text) nothing refl) all is
