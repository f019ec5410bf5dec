-- The edits of a delta have that delta.
use Rattle.std.proofs.Common.{◌≡◌, ℕ, zero, suc, ◌+◌, ◌-◌, ◌≤◌, true, false, not, List, [], ◌∷◌, ◌++◌, length, take}
use Rattle.std.proofs.Common.{drop, map, reverse, Some, Result, Ok, Err, refl, sym, ap, ◌∙◌, ◌⊎◌, inl, inr, arith, append_assoc, length-append}
use Rattle.std.specs.Prelude.{if◌then◌else◌}
use Rattle.std.proofs.lemmas.List.{append-nil, take-append-le, take-take, length-take-le, length-drop, reverse-append}
use Rattle.std.proofs.lemmas.Bool.{le-leb, ne_eqb}
use Rattle.tt_base.specs.Answers.{and_then}
use Rattle.tt_base.specs.declared.edits.TextEdit.{TextEdit}
use Rattle.delta.specs.Cells.{Cells, base_length, result_length, covers, inserts, nothing, keeping, applied, is_nothing, IsNormal}
use Rattle.delta.specs.Marks.{Mark, New, places, marks_of, marks_from, applied_marks, composed}
use Rattle.delta.specs.Steps.{cells_of, MayLead, IsCanonical}
use Rattle.delta.specs.declared.steps.DeltaStep.{DeltaStep}
use Rattle.delta.specs.declared.steps.DeltaStep.TheVariants.{Keep, Insert, Delete}
use Rattle.delta.proofs.CellsLemmas.{inserts_none, covers-covers, base_length-covers, base_length-inserts}
use Rattle.delta.proofs.MarksLemmas.{length-places, applied_marks-inserts, applied_marks-kept, applied_marks-deleted, marks_from-inserts, marks_from-kept, marks_from-deleted, length-marks_from}
use Rattle.delta.proofs.ComposedLemmas.{marks_of-composed, IsNormal-composed, base_length-composed}
use Rattle.delta.proofs.LawLemmas.{marks_fix, length-applied}
use Rattle.delta.proofs.ApplyLemmas.{applied-kept}
use Rattle.delta.proofs.StepsLemmas.{IsNormal-kept, IsNormal-cells_of}
use Rattle.text_position.specs.Places.{offset_at, position_behind, first_position, position_at}
use Rattle.text_position.specs.Edits.{range_between, replacing, delta_of_edit, with_edits, delta_of_edits}
use Rattle.text_position.specs.Changes.{Change, change_if, edit_for, edits_of}
use Rattle.text_position.specs.Writing.{change_at_end, changes_ahead}
use Rattle.text_position.specs.declared.faults.EditsFault.{EditsFault}
use Rattle.text_position.specs.declared.faults.EditsFault.TheVariants.{BackwardRange}
use Rattle.text_position.proofs.PlacesLemmas.{offset_at-position_at}
use Rattle.text_position.proofs.EditLemmas.{IsNormal-change, base_length-change}
use Rattle.text_position.proofs.ChangesLemmas.{changes_of-cells_of}

places-add : (i m n : ℕ) → places i (m + n) ≡ places i m ++ places (i + m) n
places-add i zero n =
    let none : 0 + n ≡ n = omega arith in
    let same : i ≡ i + 0 = omega arith in
    ap (places i) none ∙ ap (λ j. places j n) same
places-add i (suc m) n =
    let sum : suc m + n ≡ suc (m + n) = omega arith in
    let same : suc i + m ≡ i + suc m = omega arith in
    ap (places i) sum ∙ ap (λ l. places i 1 ++ l) (places-add (suc i) m n ∙ ap (λ j. places (suc i) m ++ places j n) same)

applied_marks-run : (n : ℕ) (d : Cells) (marks more : List Mark) → length marks ≡ n → applied_marks (covers true n d) (marks ++ more) ≡ marks ++ applied_marks d more
applied_marks-run n d marks more size = ap (λ m. applied_marks (covers true m d) (marks ++ more)) (sym size) ∙ applied_marks-kept d marks more

applied_marks-gone : (n : ℕ) (d : Cells) (marks more : List Mark) → length marks ≡ n → applied_marks (covers false n d) (marks ++ more) ≡ applied_marks d more
applied_marks-gone n d marks more size = ap (λ m. applied_marks (covers false m d) (marks ++ more)) (sym size) ∙ applied_marks-deleted d marks more

applied_marks-all : (n : ℕ) (marks : List Mark) → length marks ≡ n → applied_marks (keeping n) marks ≡ marks
applied_marks-all n marks size =
    ap (applied_marks (keeping n)) (sym (append-nil marks)) ∙ applied_marks-run n nothing marks [] size ∙ append-nil marks

-- a delta that keeps all behind a change
abbrev change_alone : ℕ → ℕ → List ℕ → ℕ → Cells
change_alone gap size text left = covers true gap (inserts text (covers false size (keeping left)))

marks_of-behind : (gap size : ℕ) (d : Cells) → marks_of (covers true (gap + size) d) ≡ places 0 gap ++ (places gap size ++ marks_from (gap + size) d)
marks_of-behind gap size d =
    let sum : 0 + (gap + size) ≡ gap + size = omega arith in
    let same : 0 + gap ≡ gap = omega arith in
    marks_from-kept 0 (gap + size) d
    ∙ ap (λ j. places 0 (gap + size) ++ marks_from j d) sum
    ∙ ap (λ l. l ++ marks_from (gap + size) d) (places-add 0 gap size ∙ ap (λ j. places 0 gap ++ places j size) same)
    ∙ append_assoc (places 0 gap) (places gap size) (marks_from (gap + size) d)

applied_marks-change : (gap size : ℕ) (text : List ℕ) (left : ℕ) (rest : List Mark) → length rest ≡ left
    → applied_marks (change_alone gap size text left) (places 0 gap ++ (places gap size ++ rest)) ≡ places 0 gap ++ (map New text ++ rest)
applied_marks-change gap size text left rest long =
    applied_marks-run gap (inserts text (covers false size (keeping left))) (places 0 gap) (places gap size ++ rest) (length-places 0 gap)
    ∙ ap (λ l. places 0 gap ++ l) (applied_marks-inserts text (covers false size (keeping left)) (places gap size ++ rest)
    ∙ ap (λ l. map New text ++ l) (applied_marks-gone size (keeping left) (places gap size) rest (length-places gap size) ∙ applied_marks-all left rest long))

marks_of-change : (gap size : ℕ) (text : List ℕ) (d : Cells) → marks_of (covers true gap (inserts text (covers false size d))) ≡ places 0 gap ++ (map New text ++ marks_from (gap + size) d)
marks_of-change gap size text d =
    let same : 0 + gap + size ≡ gap + size = omega arith in
    marks_from-kept 0 gap (inserts text (covers false size d))
    ∙ ap (λ l. places 0 gap ++ l) (marks_from-inserts (0 + gap) text (covers false size d)
    ∙ ap (λ l. map New text ++ l) (marks_from-deleted (0 + gap) size d ∙ ap (λ j. marks_from j d) same))

-- a change in front of all that a delta changes
composed-change : (gap size : ℕ) (text : List ℕ) (d : Cells) → IsNormal (covers false size d)
    → composed (covers true (gap + size) d) (change_alone gap size text (result_length d)) ≡ covers true gap (inserts text (covers false size d))
composed-change gap size text d h =
    let first : Cells = covers true (gap + size) d in
    let second : Cells = change_alone gap size text (result_length d) in
    marks_fix (composed first second) (covers true gap (inserts text (covers false size d))) (IsNormal-composed first second) (IsNormal-change gap size text d h)
    (base_length-composed first second ∙ omega (arith, base_length-covers true (gap + size) d, base_length-change gap size text d))
    (marks_of-composed first second
    ∙ ap (applied_marks second) (marks_of-behind gap size d)
    ∙ applied_marks-change gap size text (result_length d) (marks_from (gap + size) d) (length-marks_from (gap + size) d)
    ∙ sym (marks_of-change gap size text d))

-- a position is the same in a text that begins alike
position_at-front : (text rest : List ℕ) (place size : ℕ) → place ≤ size → size ≤ length text → position_at text place ≡ position_at (take size text ++ rest) place
position_at-front text rest place size h long =
    let front = length-take-le size text long in
    ap (position_behind first_position) (sym (take-append-le place (take size text) rest (omega (arith, front, h)) ∙ take-take place size text h))

-- the edit of a change, in a text that begins as the old one does, is that change
delta_of_change : (index : ℕ) (text rest : List ℕ) (gap size : ℕ) (t : List ℕ) → gap + size ≤ length text
    → delta_of_edit index (take (gap + size) text ++ rest) (edit_for text (record { start = gap; end = gap + size; text = t })) ≡ Ok (change_alone gap size t (length rest))
delta_of_change index text rest gap size t long =
    let reached : List ℕ = take (gap + size) text ++ rest in
    let total : length reached ≡ gap + size + length rest =
    length-append (take (gap + size) text) rest ∙ ap (λ n. n + length rest) (length-take-le (gap + size) text long) in
    let start : offset_at reached (position_at text gap) ≡ Some gap =
    ap (offset_at reached) (position_at-front text rest gap (gap + size) (omega arith) long)
    ∙ offset_at-position_at reached gap (omega (arith, total)) in
    let end : offset_at reached (position_at text (gap + size)) ≡ Some (gap + size) =
    ap (offset_at reached) (position_at-front text rest (gap + size) (gap + size) (omega arith) long)
    ∙ offset_at-position_at reached (gap + size) (omega (arith, total)) in
    let next : (ℕ × ℕ) → Result Cells EditsFault = λ range. Ok (replacing (length reached) range.0 range.1 t) in
    let deleted : gap + size - gap ≡ size = omega arith in
    let left : length reached - (gap + size) ≡ length rest = omega (arith, total) in
    ap (λ s. and_then (range_between index s (offset_at reached (position_at text (gap + size)))) next) start
    ∙ ap (λ e. and_then (range_between index (Some gap) e) next) end
    ∙ ap (λ b. and_then (if b then Ok (gap, gap + size) else Err (BackwardRange index)) next) (le-leb gap (gap + size) (omega arith))
    ∙ ap (λ n. Ok (covers true gap (inserts t (covers false n (keeping (length reached - (gap + size))))))) deleted
    ∙ ap (λ n. Ok (covers true gap (inserts t (covers false size (keeping n))))) left

pub with_edits-append : (index : ℕ) (text : List ℕ) (so_far d : Cells) (edits more : List TextEdit) → with_edits index text so_far edits ≡ Ok d
    → with_edits index text so_far (edits ++ more) ≡ with_edits (index + length edits) text d more
with_edits-append index text so_far d [] more e =
    let same : index ≡ index + 0 = omega arith in
    let is : so_far ≡ d = cc in
    ap (λ i. with_edits i text so_far more) same ∙ ap (λ x. with_edits (index + 0) text x more) is
with_edits-append index text so_far d (edit ∷ edits) more e =
    by_edit (delta_of_edit index (applied so_far text) edit) e (λ (x : Cells). with_edits-append (index + 1) text (composed so_far x) d edits more) where
      by_edit : (r : Result Cells EditsFault) → and_then r (λ x. with_edits (index + 1) text (composed so_far x) edits) ≡ Ok d
          → ((x : Cells) → with_edits (index + 1) text (composed so_far x) edits ≡ Ok d
          → with_edits (index + 1) text (composed so_far x) (edits ++ more) ≡ with_edits (index + 1 + length edits) text d more)
          → and_then r (λ x. with_edits (index + 1) text (composed so_far x) (edits ++ more)) ≡ with_edits (index + suc (length edits)) text d more
      by_edit (Ok x) e rest =
          let same : index + 1 + length edits ≡ index + suc (length edits) = omega arith in
          rest x e ∙ ap (λ i. with_edits i text d more) same
      by_edit (Err fault) e rest = absurd (cc)

-- the edits of changes that stand in order
abbrev pub backwards : List ℕ → List Change → List TextEdit
backwards text changes = reverse (map (edit_for text) changes)

pub backwards-more : (text : List ℕ) (change : Change) (changes : List Change) → backwards text (change ∷ changes) ≡ backwards text changes ++ edit_for text change ∷ []
backwards-more text change changes = reverse-append (edit_for text change ∷ []) (map (edit_for text) changes)

abbrev outcome : List ℕ → List Change → Result Cells EditsFault
outcome text changes = delta_of_edits text (backwards text changes)

-- the edit of one more change in front
outcome-more : (text : List ℕ) (gap size : ℕ) (t : List ℕ) (d : Cells) (changes : List Change) → IsNormal (covers false size d) → gap + size + base_length d ≡ length text
    → outcome text changes ≡ Ok (covers true (gap + size) d) → outcome text (record { start = gap; end = gap + size; text = t } ∷ changes) ≡ Ok (covers true gap (inserts t (covers false size d)))
outcome-more text gap size t d changes h long e =
    let edit : TextEdit = edit_for text (record { start = gap; end = gap + size; text = t }) in
    let index : ℕ = 0 + length (backwards text changes) in
    let first : Cells = covers true (gap + size) d in
    let rest : List ℕ = applied d (drop (gap + size) text) in
    let within : gap + size ≤ length text = omega (arith, long) in
    let base : base_length d ≡ length (drop (gap + size) text) = omega (arith, long, length-drop (gap + size) text) in
    ap (delta_of_edits text) (backwards-more text (record { start = gap; end = gap + size; text = t }) changes)
    ∙ with_edits-append 0 text (keeping (length text)) first (backwards text changes) (edit ∷ []) e
    ∙ ap (λ l. and_then (delta_of_edit index l edit) (λ x. Ok (composed first x))) (applied-kept (gap + size) d text within)
    ∙ ap (λ r. and_then r (λ x. Ok (composed first x))) (delta_of_change index text rest gap size t within)
    ∙ ap (λ n. Ok (composed first (covers true gap (inserts t (covers false size (keeping n)))))) (length-applied d (drop (gap + size) text) base)
    ∙ ap Ok (composed-change gap size t d h)

pub some_text : (c : ℕ) (text : List ℕ) → is_nothing (c ∷ text) ≡ false
some_text c text = ne_eqb (suc (length text)) 0 (λ e. absurd (omega (arith, e)))

-- the edit of a text that waits at a gap behind which nothing is deleted
outcome-waiting : (text : List ℕ) (gap : ℕ) (waiting : List ℕ) (d : Cells) (changes : List Change) → IsNormal d → gap + base_length d ≡ length text
    → outcome text changes ≡ Ok (covers true gap d) → outcome text (change_at_end gap waiting ++ changes) ≡ Ok (covers true gap (inserts waiting d))
outcome-waiting text gap [] d changes h long e = e ∙ ap (λ x. Ok (covers true gap x)) (sym (inserts_none d))
outcome-waiting text gap (c ∷ waiting) d changes h long e =
    let same : gap ≡ gap + 0 = omega arith in
    ap (λ b. outcome text (change_if (not b) gap 0 (c ∷ waiting) ++ changes)) (some_text c waiting)
    ∙ outcome-more text gap 0 (c ∷ waiting) d changes h (omega (arith, long)) (e ∙ ap (λ g. Ok (covers true g d)) same)

pub outcome-ahead : (text : List ℕ) (gap : ℕ) (waiting : List ℕ) (ss : List DeltaStep) → IsCanonical ss → (waiting ≡ []) ⊎ MayLead (Insert waiting) ss → gap + base_length (cells_of ss) ≡ length text
    → outcome text (changes_ahead gap waiting ss) ≡ Ok (covers true gap (inserts waiting (cells_of ss)))
outcome-ahead text gap waiting [] h ready long =
    let all : length text ≡ gap = omega (arith, long) in
    ap (outcome text) (sym (append-nil (change_at_end gap waiting)))
    ∙ outcome-waiting text gap waiting nothing [] tt long (ap (λ n. Ok (keeping n)) all)
outcome-ahead text gap waiting (Keep n ∷ ss) h ready long =
    outcome-waiting text gap waiting (covers true n (cells_of ss)) (changes_ahead (gap + n) [] ss) (IsNormal-kept n (cells_of ss) (IsNormal-cells_of ss h.1)) long
    (outcome-ahead text (gap + n) [] ss h.1 (inl refl) (omega (arith, long, base_length-covers true n (cells_of ss)))
    ∙ ap (λ d. Ok (covers true (gap + n) d)) (inserts_none (cells_of ss))
    ∙ ap Ok (sym (covers-covers true gap n (cells_of ss))))
outcome-ahead text gap waiting (Insert t ∷ ss) h (inr lead) long = absurd lead
outcome-ahead text gap waiting (Insert t ∷ ss) h (inl none) long =
    let same : gap + 0 ≡ gap = omega arith in
    ap (λ g. outcome text (changes_ahead g t ss)) same
    ∙ outcome-ahead text gap t ss h.1 (inr h.0.leads) (omega (arith, long, base_length-inserts t (cells_of ss)))
    ∙ ap (λ d. Ok (covers true gap d)) (sym (ap (λ w. inserts w (inserts t (cells_of ss))) none ∙ inserts_none (inserts t (cells_of ss))))
outcome-ahead text gap waiting (Delete n ∷ ss) h ready long =
    let base = base_length-covers false n (cells_of ss) in
    outcome-more text gap n waiting (cells_of ss) (changes_ahead (gap + n) [] ss) (IsNormal-cells_of (Delete n ∷ ss) h) (omega (arith, long, base))
    (outcome-ahead text (gap + n) [] ss h.1 (inl refl) (omega (arith, long, base))
    ∙ ap (λ d. Ok (covers true (gap + n) d)) (inserts_none (cells_of ss)))

pub round_trip : (text : List ℕ) (ss : List DeltaStep) → IsCanonical ss → base_length (cells_of ss) ≡ length text → delta_of_edits text (edits_of text (cells_of ss)) ≡ Ok (cells_of ss)
round_trip text ss h long =
    ap (outcome text) (sym (changes_of-cells_of ss h))
    ∙ outcome-ahead text 0 [] ss h (inl refl) (omega (arith, long))
    ∙ ap Ok (inserts_none (cells_of ss))
