-- The ranges of the edits of a delta stand apart in the old text.
use Rattle.std.proofs.Common.{◌≡◌, ℕ, ◌+◌, ◌<◌, ◌≤◌, Bool, true, false, not, List, [], ◌∷◌, ◌++◌, length, refl, sym, ap, subst, ◌⊎◌, inl, inr, arith}
use Rattle.std.proofs.lemmas.List.{append-nil}
use Rattle.tt_base.specs.declared.edits.TextEdit.{TextEdit}
use Rattle.delta.specs.Cells.{base_length}
use Rattle.delta.specs.Steps.{cells_of, MayLead, IsCanonical}
use Rattle.delta.specs.declared.steps.DeltaStep.{DeltaStep}
use Rattle.delta.specs.declared.steps.DeltaStep.TheVariants.{Keep, Insert, Delete}
use Rattle.delta.proofs.CellsLemmas.{base_length-covers, base_length-inserts}
use Rattle.text_position.specs.Places.{IsPlace}
use Rattle.text_position.specs.Changes.{Change, change_if, edit_for, edits_of, EndsBefore, AreApart}
use Rattle.text_position.specs.Writing.{change_at_end, changes_ahead}
use Rattle.text_position.proofs.PlacesLemmas.{place-position_at}
use Rattle.text_position.proofs.ChangesLemmas.{changes_of-cells_of}
use Rattle.text_position.proofs.RoundTripLemmas.{backwards, backwards-more, some_text}

-- the ranges are apart, end before a place, and none starts before another
abbrev AreBetween : List ℕ → ℕ → ℕ → List TextEdit → Type 0
AreBetween text low place [] = low ≤ place
AreBetween text low place (edit ∷ edits) = EndsBefore text place edit (λ start. AreBetween text low start edits)

-- what is told of the others may be told in another way
with_others : {text : List ℕ} {place : ℕ} {edit : TextEdit} {Others More : ℕ → Type 0} → (h : EndsBefore text place edit Others) → More h.start → EndsBefore text place edit More
with_others h others = record { start = h.start; end = h.end; start_is = h.start_is; end_is = h.end_is; forward = h.forward; before = h.before; others = others }

AreApart-between : (text : List ℕ) (low place : ℕ) (edits : List TextEdit) → AreBetween text low place edits → AreApart text place edits
AreApart-between text low place [] h = tt
AreApart-between text low place (edit ∷ edits) h =
    with_others h (AreApart-between text low h.start edits h.others)

AreBetween-lower : (text : List ℕ) (low high place : ℕ) (edits : List TextEdit) → low ≤ high → AreBetween text high place edits → AreBetween text low place edits
AreBetween-lower text low high place [] le h = omega (arith, le, h)
AreBetween-lower text low high place (edit ∷ edits) le h =
    with_others h (AreBetween-lower text low high h.start edits le h.others)

AreBetween-more : (text : List ℕ) (low high place start end : ℕ) (edits : List TextEdit) (edit : TextEdit) → IsPlace text edit.start start → IsPlace text edit.end end → start ≤ end
    → end < high → low ≤ start
    → AreBetween text high place edits → AreBetween text low place (edits ++ edit ∷ [])
AreBetween-more text low high place start end [] edit s e forward before le h =
    record { start = start; end = end; start_is = s; end_is = e; forward = forward; before = omega (arith, before, h); others = le }
AreBetween-more text low high place start end (next ∷ edits) edit s e forward before le h =
    with_others h (AreBetween-more text low high h.start start end edits edit s e forward before le h.others)

-- the edit of one more change in front
between-change : (text : List ℕ) (low high gap size : ℕ) (t : List ℕ) (changes : List Change) → gap + size ≤ length text → gap + size < high → low ≤ gap
    → AreBetween text high (length text + 1) (backwards text changes) → AreBetween text low (length text + 1) (backwards text (change_if true gap size t ++ changes))
between-change text low high gap size t changes within before le h =
    let P : List TextEdit → Type 0 = λ edits. AreBetween text low (length text + 1) edits in
    let change : Change = record { start = gap; end = gap + size; text = t } in
    subst P (sym (backwards-more text change changes))
    (AreBetween-more text low high (length text + 1) gap (gap + size) (backwards text changes) (edit_for text change)
    (place-position_at text gap (omega (arith, within))) (place-position_at text (gap + size) within) (omega arith) before le h)

-- how far down the edits of the steps from a gap on may start
abbrev MayStart : ℕ → ℕ → List ℕ → List DeltaStep → Type 0
MayStart low gap waiting ss = (low ≤ gap) ⊎ ((low ≤ gap + 1) × (waiting ≡ []) × ((n : ℕ) × MayLead (Delete n) ss))

between-waiting : (text : List ℕ) (low high gap : ℕ) (waiting : List ℕ) (changes : List Change) → gap ≤ length text → gap < high → low ≤ high → (low ≤ gap) ⊎ (waiting ≡ [])
    → AreBetween text high (length text + 1) (backwards text changes) → AreBetween text low (length text + 1) (backwards text (change_at_end gap waiting ++ changes))
between-waiting text low high gap [] changes within before le room h = AreBetween-lower text low high (length text + 1) (backwards text changes) le h
between-waiting text low high gap (c ∷ waiting) changes within before le (inl room) h =
    let P = λ (b : Bool). AreBetween text low (length text + 1) (backwards text (change_if (not b) gap 0 (c ∷ waiting) ++ changes)) in
    subst P (sym (some_text c waiting)) (between-change text low high gap 0 (c ∷ waiting) changes (omega (arith, within)) (omega (arith, before)) room h)
between-waiting text low high gap (c ∷ waiting) changes within before le (inr none) h = absurd (omega (arith, ap length none))

room_for : (low gap : ℕ) (waiting : List ℕ) (ss : List DeltaStep) → MayStart low gap waiting ss → (low ≤ gap) ⊎ (waiting ≡ [])
room_for low gap waiting ss (inl le) = inl le
room_for low gap waiting ss (inr h) = inr h.1

lowest : (low gap : ℕ) (waiting : List ℕ) (ss : List DeltaStep) → MayStart low gap waiting ss → low ≤ gap + 1
lowest low gap waiting ss (inl le) = omega (arith, le)
lowest low gap waiting ss (inr h) = h.0

between-ahead : (text : List ℕ) (low gap : ℕ) (waiting : List ℕ) (ss : List DeltaStep) → IsCanonical ss → gap + base_length (cells_of ss) ≡ length text → MayStart low gap waiting ss
    → AreBetween text low (length text + 1) (backwards text (changes_ahead gap waiting ss))
between-ahead text low gap waiting [] h long may =
    let P = λ (changes : List Change). AreBetween text low (length text + 1) (backwards text changes) in
    let low_fits = lowest low gap waiting [] may in
    subst P (append-nil (change_at_end gap waiting))
    (between-waiting text low (length text + 1) gap waiting [] (omega (arith, long)) (omega (arith, long)) (omega (arith, long, low_fits)) (room_for low gap waiting [] may) (omega arith))
between-ahead text low gap waiting (Keep n ∷ ss) h long may =
    let base = base_length-covers true n (cells_of ss) in
    let low_fits = lowest low gap waiting (Keep n ∷ ss) may in
    between-waiting text low (gap + n) gap waiting (changes_ahead (gap + n) [] ss) (omega (arith, long)) (omega (arith, h.0)) (omega (arith, h.0, low_fits))
    (room_for low gap waiting (Keep n ∷ ss) may)
    (between-ahead text (gap + n) (gap + n) [] ss h.1 (omega (arith, long, base)) (inl (omega arith)))
between-ahead text low gap waiting (Insert t ∷ ss) h long (inr far) = absurd far.2.1
between-ahead text low gap waiting (Insert t ∷ ss) h long (inl le) =
    between-ahead text low (gap + 0) t ss h.1 (omega (arith, long, base_length-inserts t (cells_of ss))) (inl (omega (arith, le)))
between-ahead text low gap waiting (Delete n ∷ ss) h long (inr far) = absurd far.2.1
between-ahead text low gap waiting (Delete n ∷ ss) h long (inl le) =
    let base = base_length-covers false n (cells_of ss) in
    between-change text low (gap + n + 1) gap n waiting (changes_ahead (gap + n) [] ss) (omega (arith, long, base)) (omega arith) le
    (between-ahead text (gap + n + 1) (gap + n) [] ss h.1 (omega (arith, long, base)) (inr (omega arith, refl, (n, h.0.leads))))

pub edits_of-apart : (text : List ℕ) (ss : List DeltaStep) → IsCanonical ss → base_length (cells_of ss) ≡ length text → AreApart text (length text + 1) (edits_of text (cells_of ss))
edits_of-apart text ss h long =
    let P = λ (changes : List Change). AreApart text (length text + 1) (backwards text changes) in
    subst P (changes_of-cells_of ss h)
    (AreApart-between text 0 (length text + 1) (backwards text (changes_ahead 0 [] ss)) (between-ahead text 0 0 [] ss h (omega (arith, long)) (inl (omega arith))))
