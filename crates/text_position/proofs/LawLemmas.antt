-- What a list of edits does to a text, and which edit is refused.
use Rattle.std.proofs.Common.{◌≡◌, ℕ, suc, ◌+◌, ◌-◌, ◌≤◌, Bool, true, false, List, [], ◌∷◌, ◌++◌, length, take}
use Rattle.std.proofs.Common.{drop, Option, Some, None, Result, Ok, Err, nat_le, refl, sym, ap, subst, ◌∙◌, ◌⊎◌, inl, inr, arith}
use Rattle.std.specs.Prelude.{if◌then◌else◌}
use Rattle.std.proofs.lemmas.List.{drop-drop, length-drop}
use Rattle.std.proofs.lemmas.Bool.{leb-true, leb-false, le-leb, lt-leb}
use Rattle.tt_base.specs.Answers.{and_then}
use Rattle.tt_base.specs.declared.edits.Position.{Position}
use Rattle.tt_base.specs.declared.edits.TextEdit.{TextEdit}
use Rattle.delta.specs.Cells.{Cells, base_length, covers, inserts, nothing, keeping, normal, applied}
use Rattle.delta.specs.Marks.{composed}
use Rattle.delta.proofs.CellsLemmas.{base_length-covers}
use Rattle.delta.proofs.ApplyLemmas.{applied-inserts, applied-kept, applied-deleted, applied-keeping}
use Rattle.delta.proofs.ComposedLemmas.{applied-composed, base_length-composed, composed-keeping}
use Rattle.delta.proofs.NormalLemmas.{normal_is_fixed}
use Rattle.text_position.specs.Places.{IsPlace, offset_at, position_at}
use Rattle.text_position.specs.Changes.{Change, edit_for}
use Rattle.text_position.specs.Edits.{replacing, range_between, delta_of_edit, with_edits, delta_of_edits, LeadInTurn}
use Rattle.text_position.specs.declared.faults.EditsFault.TheVariants.{BadPosition, BackwardRange, Memory}
use Rattle.text_position.specs.Laws.{IsNoRange, IsRefusedAt}
use Rattle.text_position.specs.declared.faults.EditsFault.{EditsFault}
use Rattle.text_position.proofs.PlacesLemmas.{offset_at-place, offset_at-position_at, place-offset_at, place-within, no_place}
use Rattle.text_position.proofs.EditLemmas.{base_length-replacing, IsNormal-replacing}
use Rattle.text_position.proofs.RoundTripLemmas.{with_edits-append}

-- the delta of one replacement replaces the characters
pub applied-replacing : (text : List ℕ) (start end : ℕ) (t : List ℕ) → start ≤ end → end ≤ length text → applied (replacing (length text) start end t) text ≡ take start text ++ (t ++ drop end text)
applied-replacing text start end t forward within =
    let left : List ℕ = drop start text in
    let size = length-drop start text in
    let sum : start + (end - start) ≡ end = omega arith in
    let behind : drop (end - start) left ≡ drop end text = drop-drop (end - start) start text ∙ ap (λ n. drop n text) sum in
    applied-kept start (inserts t (covers false (end - start) (keeping (length text - end)))) text (omega arith)
    ∙ ap (λ l. take start text ++ l) (applied-inserts t (covers false (end - start) (keeping (length text - end))) left
    ∙ ap (λ l. t ++ l) (applied-deleted (end - start) (keeping (length text - end)) left (omega (arith, size))
    ∙ ap (applied (keeping (length text - end))) behind
    ∙ applied-keeping (length text - end) (drop end text) (length-drop end text)))

-- an edit that has a delta
record IsGood (text : List ℕ) (edit : TextEdit) (d : Cells) : Type 0 where
  start : ℕ
  end : ℕ
  start_is : IsPlace text edit.start start
  end_is : IsPlace text edit.end end
  forward : start ≤ end
  delta_is : d ≡ replacing (length text) start end edit.replacement

good_edit : (index : ℕ) (text : List ℕ) (edit : TextEdit) (d : Cells) → delta_of_edit index text edit ≡ Ok d → IsGood text edit d
good_edit index text edit d e = by_places (offset_at text edit.start) (offset_at text edit.end) refl refl e where
  by_order : (s t : ℕ) → offset_at text edit.start ≡ Some s → offset_at text edit.end ≡ Some t → (b : Bool) → nat_le s t ≡ b
      → and_then {T = ℕ × ℕ} (if b then Ok (s, t) else Err (BackwardRange index)) (λ range. Ok (replacing (length text) range.0 range.1 edit.replacement)) ≡ Ok d → IsGood text edit d
  by_order s t start end true test e = record {
    start = s;
    end = t;
    start_is = place-offset_at text edit.start s start;
    end_is = place-offset_at text edit.end t end;
    forward = leb-true s t test;
    delta_is = cc;
  }
  by_order s t start end false test e = absurd (cc)

  by_places : (o p : Option ℕ) → offset_at text edit.start ≡ o → offset_at text edit.end ≡ p
      → and_then (range_between index o p) (λ range. Ok (replacing (length text) range.0 range.1 edit.replacement)) ≡ Ok d → IsGood text edit d
  by_places None p start end e = absurd (cc)
  by_places (Some s) None start end e = absurd (cc)
  by_places (Some s) (Some t) start end e = by_order s t start end (nat_le s t) refl e

lead_in_turn : (index : ℕ) (text : List ℕ) (so_far : Cells) (edits : List TextEdit) (d : Cells) → base_length so_far ≡ length text → with_edits index text so_far edits ≡ Ok d
    → LeadInTurn (applied so_far text) edits (applied d text)
lead_in_turn index text so_far [] d long e = let is : d ≡ so_far = cc in ap (λ x. applied x text) is
lead_in_turn index text so_far (edit ∷ edits) d long e =
    by_edit (delta_of_edit index (applied so_far text) edit) refl e (λ (x : Cells). lead_in_turn (index + 1) text (composed so_far x) edits d (base_length-composed so_far x ∙ long)) where
      by_edit : (r : Result Cells EditsFault) → delta_of_edit index (applied so_far text) edit ≡ r → and_then r (λ x. with_edits (index + 1) text (composed so_far x) edits) ≡ Ok d
          → ((x : Cells) → with_edits (index + 1) text (composed so_far x) edits ≡ Ok d → LeadInTurn (applied (composed so_far x) text) edits (applied d text))
          → LeadInTurn (applied so_far text) (edit ∷ edits) (applied d text)
      by_edit (Err fault) is e rest = absurd (cc)
      by_edit (Ok x) is e rest =
          let reached : List ℕ = applied so_far text in
          let good = good_edit index reached edit x is in
          let within = place-within reached edit.end good.end good.end_is in record {
            reached = applied (composed so_far x) text;
            leads = record {
              start = good.start;
              end = good.end;
              start_is = good.start_is;
              end_is = good.end_is;
              forward = good.forward;
              after_is =
                  applied-composed so_far x text long
                  ∙ ap (λ y. applied y reached) good.delta_is
                  ∙ applied-replacing reached good.start good.end edit.replacement good.forward within;
            };
            rest = rest x e;
          }

pub edits_lead_in_turn : (text : List ℕ) (edits : List TextEdit) (d : Cells) → delta_of_edits text edits ≡ Ok d → LeadInTurn text edits (applied d text)
edits_lead_in_turn text edits d e =
    let P : List ℕ → Type 0 = λ t. LeadInTurn t edits (applied d text) in
    subst P (applied-keeping (length text) text refl)
    (lead_in_turn 0 text (keeping (length text)) edits d (omega (arith, base_length-covers true (length text) nothing)) e)

-- an edit that has no delta
bad_edit : (index : ℕ) (text : List ℕ) (edit : TextEdit) (fault : EditsFault) → delta_of_edit index text edit ≡ Err fault → IsNoRange text edit index fault
bad_edit index text edit fault e = by_places (offset_at text edit.start) (offset_at text edit.end) refl refl e where
  by_order : (s t : ℕ) → offset_at text edit.start ≡ Some s → offset_at text edit.end ≡ Some t → (b : Bool) → nat_le s t ≡ b
      → and_then {T = ℕ × ℕ} (if b then Ok (s, t) else Err (BackwardRange index)) (λ range. Ok (replacing (length text) range.0 range.1 edit.replacement)) ≡ Err fault → IsNoRange text edit index fault
  by_order s t start end true test e = absurd (cc)
  by_order s t start end false test e =
      inr (cc, record { start = s; end = t; start_is = place-offset_at text edit.start s start; end_is = place-offset_at text edit.end t end; backward = leb-false s t test })

  by_places : (o p : Option ℕ) → offset_at text edit.start ≡ o → offset_at text edit.end ≡ p
      → and_then (range_between index o p) (λ range. Ok (replacing (length text) range.0 range.1 edit.replacement)) ≡ Err fault → IsNoRange text edit index fault
  by_places None p start end e = inl (cc, inl (no_place text edit.start start))
  by_places (Some s) None start end e = inl (cc, inr (no_place text edit.end end))
  by_places (Some s) (Some t) start end e = by_order s t start end (nat_le s t) refl e

-- where an edit of a list is refused, behind a delta so far
record IsRefusedFrom (index : ℕ) (text : List ℕ) (so_far : Cells) (edits : List TextEdit) (fault : EditsFault) : Type 0 where
  before : List TextEdit
  edit : TextEdit
  behind : List TextEdit
  cut : edits ≡ before ++ edit ∷ behind
  reached : Cells
  before_is_good : with_edits index text so_far before ≡ Ok reached
  no_range : IsNoRange (applied reached text) edit (index + length before) fault

refused_from : (index : ℕ) (text : List ℕ) (so_far : Cells) (edits : List TextEdit) (fault : EditsFault) → with_edits index text so_far edits ≡ Err fault → IsRefusedFrom index text so_far edits fault
refused_from index text so_far [] fault e = absurd (cc)
refused_from index text so_far (edit ∷ edits) fault e =
    by_edit (delta_of_edit index (applied so_far text) edit) refl e (λ (x : Cells). refused_from (index + 1) text (composed so_far x) edits fault) where
      by_edit : (r : Result Cells EditsFault) → delta_of_edit index (applied so_far text) edit ≡ r → and_then r (λ x. with_edits (index + 1) text (composed so_far x) edits) ≡ Err fault
          → ((x : Cells) → with_edits (index + 1) text (composed so_far x) edits ≡ Err fault → IsRefusedFrom (index + 1) text (composed so_far x) edits fault)
          → IsRefusedFrom index text so_far (edit ∷ edits) fault
      by_edit (Err cause) is e rest =
          let same : cause ≡ fault = cc in
          let start : index ≡ index + 0 = omega arith in
          let P : ℕ → Type 0 = λ i. IsNoRange (applied so_far text) edit i fault in
          record {
            before = [];
            edit = edit;
            behind = edits;
            cut = refl;
            reached = so_far;
            before_is_good = refl;
            no_range = subst P start (bad_edit index (applied so_far text) edit fault (is ∙ ap Err same));
          }
      by_edit (Ok x) is e rest =
          let later = rest x e in
          let sum : index + 1 + length later.before ≡ index + suc (length later.before) = omega arith in
          let P : ℕ → Type 0 = λ i. IsNoRange (applied later.reached text) later.edit i fault in
          record {
            before = edit ∷ later.before;
            edit = later.edit;
            behind = later.behind;
            cut = ap (λ es. edit ∷ es) later.cut;
            reached = later.reached;
            before_is_good =
                ap (λ r. and_then r (λ y. with_edits (index + 1) text (composed so_far y) later.before)) is ∙ later.before_is_good;
            no_range = subst P sum later.no_range;
          }

pub refusal_tells_first : (text : List ℕ) (edits : List TextEdit) (fault : EditsFault) → delta_of_edits text edits ≡ Err fault → IsRefusedAt text edits fault
refusal_tells_first text edits fault e =
    let h = refused_from 0 text (keeping (length text)) edits fault e in
    let sum : 0 + length h.before ≡ length h.before = omega arith in
    let P : ℕ → Type 0 = λ i. IsNoRange (applied h.reached text) h.edit i fault in
    record {
      before = h.before;
      edit = h.edit;
      behind = h.behind;
      cut = h.cut;
      so_far = h.reached;
      before_is_good = h.before_is_good;
      no_range = subst P sum h.no_range;
    }

none_from : (text : List ℕ) (p : Position) → ((offset : ℕ) → IsPlace text p offset → ⊥) → offset_at text p ≡ None
none_from text p none = by_value (offset_at text p) refl where
  by_value : (o : Option ℕ) → offset_at text p ≡ o → o ≡ None
  by_value None is = refl
  by_value (Some offset) is = absurd (none offset (place-offset_at text p offset is))

edit_of_bad : (index : ℕ) (text : List ℕ) (edit : TextEdit) (fault : EditsFault) → IsNoRange text edit index fault → delta_of_edit index text edit ≡ Err fault
edit_of_bad index text edit fault (inl (bad, inl none)) =
    ap (λ o. and_then (range_between index o (offset_at text edit.end)) (λ range. Ok (replacing (length text) range.0 range.1 edit.replacement))) (none_from text edit.start none)
    ∙ ap Err (sym bad)
edit_of_bad index text edit fault (inl (bad, inr none)) =
    ap (λ o. and_then (range_between index (offset_at text edit.start) o) (λ range. Ok (replacing (length text) range.0 range.1 edit.replacement))) (none_from text edit.end none)
    ∙ by_start (offset_at text edit.start)
    ∙ ap Err (sym bad) where
      by_start : (o : Option ℕ) → and_then {U = Cells} (range_between index o None) (λ range. Ok (replacing (length text) range.0 range.1 edit.replacement)) ≡ Err (BadPosition index)
      by_start None = refl
      by_start (Some s) = refl
edit_of_bad index text edit fault (inr (bad, h)) =
    let s : ℕ = h.start in
    let t : ℕ = h.end in
    ap (λ o. and_then (range_between index o (offset_at text edit.end)) (λ range. Ok (replacing (length text) range.0 range.1 edit.replacement))) (offset_at-place text edit.start s h.start_is)
    ∙ ap (λ o. and_then (range_between index (Some s) o) (λ range. Ok (replacing (length text) range.0 range.1 edit.replacement))) (offset_at-place text edit.end t h.end_is)
    ∙ ap (λ b. and_then {T = ℕ × ℕ} (if b then Ok (s, t) else Err (BackwardRange index)) (λ range. Ok (replacing (length text) range.0 range.1 edit.replacement))) (lt-leb s t h.backward)
    ∙ ap Err (sym bad)

pub first_bad_is_refused : (text : List ℕ) (edits : List TextEdit) (fault : EditsFault) → IsRefusedAt text edits fault → delta_of_edits text edits ≡ Err fault
first_bad_is_refused text edits fault h =
    let sum : 0 + length h.before ≡ length h.before = omega arith in
    ap (delta_of_edits text) h.cut
    ∙ with_edits-append 0 text (keeping (length text)) h.so_far h.before (h.edit ∷ h.behind) h.before_is_good
    ∙ ap (λ i. with_edits i text h.so_far (h.edit ∷ h.behind)) sum
    ∙ ap (λ r. and_then r (λ x. with_edits (length h.before + 1) text (composed h.so_far x) h.behind)) (edit_of_bad (length h.before) (applied h.so_far text) h.edit fault h.no_range)

-- the first edit of a list needs neither the delta that keeps all nor another text
pub first_edit : (text : List ℕ) (edit : TextEdit) (edits : List TextEdit) (d : Cells) → delta_of_edit 0 text edit ≡ Ok d → with_edits 1 text d edits ≡ delta_of_edits text (edit ∷ edits)
first_edit text edit edits d is =
    let n : ℕ = length text in
    let good = good_edit 0 text edit d is in
    let within : good.end ≤ n = place-within text edit.end good.end good.end_is in
    let base : base_length d ≡ n = ap base_length good.delta_is ∙ base_length-replacing n good.start good.end edit.replacement good.forward within in
    let one : Cells = replacing n good.start good.end edit.replacement in
    let normal_d : normal d ≡ d =
    ap normal good.delta_is ∙ normal_is_fixed one (IsNormal-replacing n good.start good.end edit.replacement) ∙ sym good.delta_is in
    let same : composed (keeping n) d ≡ d = ap (λ m. composed (keeping m) d) (sym base) ∙ composed-keeping d ∙ normal_d in
    ap (λ e. with_edits 1 text e edits) (sym same)
    ∙ ap (λ r. and_then r (λ x. with_edits 1 text (composed (keeping n) x) edits)) (sym is)
    ∙ ap (λ t. and_then (delta_of_edit 0 t edit) (λ x. with_edits 1 text (composed (keeping n) x) edits)) (sym (applied-keeping n text refl))

pub first_refused : (text : List ℕ) (edit : TextEdit) (edits : List TextEdit) (fault : EditsFault) → delta_of_edit 0 text edit ≡ Err fault → delta_of_edits text (edit ∷ edits) ≡ Err fault
first_refused text edit edits fault is =
    let n : ℕ = length text in
    ap (λ t. and_then (delta_of_edit 0 t edit) (λ x. with_edits 1 text (composed (keeping n) x) edits)) (applied-keeping n text refl)
    ∙ ap (λ r. and_then r (λ x. with_edits 1 text (composed (keeping n) x) edits)) is

pub first_gives_refusal : (text : List ℕ) (edits : List TextEdit) (edit : TextEdit) (rest : List TextEdit) (fault : EditsFault) → edits ≡ edit ∷ rest
    → (delta_of_edit 0 text edit ≡ Err fault) ⊎ (fault ≡ Memory) → (delta_of_edits text edits ≡ Err fault) ⊎ (fault ≡ Memory)
first_gives_refusal text edits edit rest fault cut (inl is) = inl (ap (delta_of_edits text) cut ∙ first_refused text edit rest fault is)
first_gives_refusal text edits edit rest fault cut (inr memory) = inr memory

-- the delta of edits is for the text that they are for
base_length-with_edits : (index : ℕ) (text : List ℕ) (so_far : Cells) (edits : List TextEdit) (d : Cells) → with_edits index text so_far edits ≡ Ok d → base_length d ≡ base_length so_far
base_length-with_edits index text so_far [] d e = let is : d ≡ so_far = cc in ap base_length is
base_length-with_edits index text so_far (edit ∷ edits) d e =
    by_edit (delta_of_edit index (applied so_far text) edit) e (λ (x : Cells). base_length-with_edits (index + 1) text (composed so_far x) edits d) where
      by_edit : (r : Result Cells EditsFault) → and_then r (λ x. with_edits (index + 1) text (composed so_far x) edits) ≡ Ok d
          → ((x : Cells) → with_edits (index + 1) text (composed so_far x) edits ≡ Ok d → base_length d ≡ base_length (composed so_far x)) → base_length d ≡ base_length so_far
      by_edit (Err fault) e rest = absurd (cc)
      by_edit (Ok x) e rest = rest x e ∙ base_length-composed so_far x

pub base_length-edits : (text : List ℕ) (edits : List TextEdit) (d : Cells) → delta_of_edits text edits ≡ Ok d → base_length d ≡ length text
base_length-edits text edits d is =
    base_length-with_edits 0 text (keeping (length text)) edits d is ∙ omega (arith, base_length-covers true (length text) nothing)

-- the edit of one change has the change as its delta
delta_of_change : (text : List ℕ) (change : Change) → change.start ≤ change.end → change.end ≤ length text
    → delta_of_edit 0 text (edit_for text change) ≡ Ok (replacing (length text) change.start change.end change.text)
delta_of_change text change forward within =
    let next : (ℕ × ℕ) → Result Cells EditsFault = λ range. Ok (replacing (length text) range.0 range.1 change.text) in
    ap (λ s. and_then (range_between 0 s (offset_at text (position_at text change.end))) next) (offset_at-position_at text change.start (omega arith))
    ∙ ap (λ e. and_then (range_between 0 (Some change.start) e) next) (offset_at-position_at text change.end within)
    ∙ ap (λ b. and_then (if b then Ok (change.start, change.end) else Err (BackwardRange 0)) next) (le-leb change.start change.end forward)

pub delta_of_one_edit : (text : List ℕ) (change : Change) → change.start ≤ change.end → change.end ≤ length text
    → delta_of_edits text (edit_for text change ∷ []) ≡ Ok (replacing (length text) change.start change.end change.text)
delta_of_one_edit text change forward within =
    sym (first_edit text (edit_for text change) [] (replacing (length text) change.start change.end change.text) (delta_of_change text change forward within))
