-- Places of the list that is kept, against what stands before and behind them.
use Rattle.std.proofs.Common.{◌≡◌, ℕ, zero, suc, ◌+◌, ◌-◌, ◌<◌, ◌≤◌, true, false, cond, List, [], ◌∷◌, ◌++◌, Option, Some, None, is_some, MatchOption, length, take, drop, sym, ap, ap₂, ◌∙◌, subst, arith, inl, inr, get_or, append_assoc, length-append, length-drop}
use Rattle.std.specs.Prelude.{slice_get}
use Rattle.std.specs.List.{insert}
use Rattle.std.proofs.lemmas.List.{take_at, drop_at, drop_all, take-append-drop, take_more, length-take-le}
use Rattle.tt_base.specs.Elements.{id_at, IsNew, AreDistinct}
use Rattle.tt_base.specs.declared.ids.ElemId.{ElemId}
use Rattle.tt_base.specs.declared.elements.Element.{Element}
use Rattle.tt_base.proofs.ElementLemmas.{new-append, new_front, new_back}
use Rattle.replica_text.specs.Ids.{less, same, next_id, shifted, is_known}
use Rattle.replica_text.specs.Placed.{passing, behind, Stops, run_of}
use Rattle.replica_text.proofs.OrderLemmas.{same_self, other_same}
use Rattle.replica_text.proofs.MemberLemmas.{Has, new_has, has_known, new_unknown}
use Rattle.replica_text.proofs.RunLemmas.{IsRunNew}

pub id_within : (elements : List Element) (place : ℕ) (id : ElemId) → id_at elements place ≡ Some id → place < length elements
id_within [] place id h = cc
id_within (x ∷ xs) zero id h = omega arith
id_within (x ∷ xs) (suc place) id h = omega (arith, id_within xs place id h)

pub id_has : (elements : List Element) (place : ℕ) (id : ElemId) → id_at elements place ≡ Some id → Has id elements
id_has [] place id h = cc
id_has (x ∷ xs) zero id h = inl (cc)
id_has (x ∷ xs) (suc place) id h = inr (id_has xs place id h)

-- a place is found where the id is known
pub place_known : (place : Option ℕ) (id : ElemId) (elements : List Element) → MatchOption place (IsNew id elements) (λ p. id_at elements p ≡ Some id)
    → is_some place ≡ is_known elements id
place_known None id elements h = sym (new_unknown id elements h)
place_known (Some p) id elements h = sym (has_known id elements (id_has elements p id h))

-- behind a parent at a place
pub behind_place : (parent : ElemId) (new : Element) (elements : List Element) (place : ℕ) → AreDistinct elements → id_at elements place ≡ Some parent
    → behind parent new elements ≡ take (suc place) elements ++ passing new (drop (suc place) elements)
behind_place parent new [] place d h = cc
behind_place parent new (x ∷ xs) zero d h =
    let is : x.id ≡ parent = cc in
    ap (λ b. cond b (x ∷ passing new xs) (x ∷ behind parent new xs)) (ap (same parent) is ∙ same_self parent)
behind_place parent new (x ∷ xs) (suc place) d h =
    ap (λ b. cond b (x ∷ passing new xs) (x ∷ behind parent new xs))
    (other_same parent x.id (λ is. new_has parent xs (subst (λ (i : ElemId). IsNew i xs) (sym is) d.0) (id_has xs place parent h)))
    ∙ ap (λ l. x ∷ l) (behind_place parent new xs place d.1 h)

-- a greater element is passed
pub pass_more : (new : Element) (elements : List Element) (place : ℕ) (e : Element) → slice_get elements place ≡ Some e → less new.id e.id ≡ true
    → take place elements ++ passing new (drop place elements) ≡ take (suc place) elements ++ passing new (drop (suc place) elements)
pass_more new [] place e h l = cc
pass_more new (x ∷ xs) zero e h l =
    let is : x ≡ e = cc in
    ap (λ b. cond b (x ∷ passing new xs) (new ∷ (x ∷ xs))) (ap (λ (y : Element). less new.id y.id) is ∙ l)
pass_more new (x ∷ xs) (suc place) e h l = ap (λ xs. x ∷ xs) (pass_more new xs place e h l)

pub stops_at : (id : ElemId) (elements : List Element) (place : ℕ) (e : Element) → slice_get elements place ≡ Some e → less id e.id ≡ false
    → Stops id (drop place elements)
stops_at id [] place e h l = cc
stops_at id (x ∷ xs) zero e h l = let is : x ≡ e = cc in ap (λ (y : Element). less id y.id) is ∙ l
stops_at id (x ∷ xs) (suc place) e h l = stops_at id xs place e h l

pub stops_end : (id : ElemId) (elements : List Element) (place : ℕ) → length elements ≤ place → Stops id (drop place elements)
stops_end id elements place h = subst (Stops id) (sym (drop_all place elements h)) tt

-- an element put in front of the last ones
pub insert_before : (front last : List Element) (e : Element) (count place : ℕ) → count ≡ length last → place ≡ length (front ++ last) - count
    → insert (front ++ last) place e ≡ front ++ e ∷ last
insert_before front last e count place c p =
    let at : length front ≡ place = omega (arith, length-append front last) in
    ap₂ (λ xs ys. xs ++ e ∷ ys) (take_at front last place at) (drop_at front last place at)

with_index : (id : ElemId) (m n : ℕ) → m ≡ n → record id { index = m } ≡ record id { index = n }
with_index id m n e = ap (λ k. record id { index = k }) e

pub shifted_none : (first : ElemId) → shifted first 0 ≡ first
shifted_none first = with_index first (first.index + 0) first.index (omega arith)

pub shifted_next : (first : ElemId) (count : ℕ) → shifted (next_id first) count ≡ shifted first (suc count)
shifted_next first count = with_index first (suc first.index + count) (first.index + suc count) (omega arith)

pub shifted_more : (id : ElemId) (m n : ℕ) → shifted (shifted id m) n ≡ shifted id (m + n)
shifted_more id m n = with_index id (id.index + m + n) (id.index + (m + n)) (omega arith)

pub run_push : (first : ElemId) (text : List ℕ) (ch : ℕ) → run_of first (text ++ ch ∷ []) ≡ run_of first text ++ record { id = shifted first (length text); ch = ch; alive = true } ∷ []
run_push first [] ch = ap (λ (i : ElemId). record { id = i; ch = ch; alive = true } ∷ []) (sym (shifted_none first))
run_push first (c ∷ text) ch =
    ap (λ l. record { id = first; ch = c; alive = true } ∷ l) (
    run_push (next_id first) text ch
    ∙ ap (λ (i : ElemId). run_of (next_id first) text ++ record { id = i; ch = ch; alive = true } ∷ []) (shifted_next first (length text)))

-- ids further on are not of the run
pub run_lacks : (id first : ElemId) (text : List ℕ) → first.index + length text ≤ id.index → IsNew id (run_of first text)
run_lacks id first [] h = tt
run_lacks id first (ch ∷ text) h = (
  (λ is. absurd (let e : first.index ≡ id.index = ap (λ (i : ElemId). i.index) is in omega (arith, e, h))),
  run_lacks id (next_id first) text (omega (arith, h)),
)

pub run_new_at : (first : ElemId) (count k : ℕ) (elements : List Element) → k < count → IsRunNew first count elements → IsNew (shifted first k) elements
run_new_at first zero k elements l h = absurd (omega (arith, l))
run_new_at first (suc count) zero elements l h = subst (λ (i : ElemId). IsNew i elements) (sym (shifted_none first)) h.0
run_new_at first (suc count) (suc k) elements l h =
    subst (λ (i : ElemId). IsNew i elements) (shifted_next first k) (run_new_at (next_id first) count k elements (omega (arith, l)) h.1)

-- the next element of a run is new, whatever of the run is there
pub run_next_new : (first : ElemId) (k : ℕ) (chars : List ℕ) (elements : List Element) (place : ℕ) → k < length chars → IsRunNew first (length chars) elements
    → IsNew (shifted first k) (take place elements ++ (run_of first (take k chars) ++ drop place elements))
run_next_new first k chars elements place l h =
    let id : ElemId = shifted first k in
    let fresh : IsNew id (take place elements ++ drop place elements) =
    subst (IsNew id) (sym (take-append-drop place elements)) (run_new_at first (length chars) k elements l h) in
    new-append id (take place elements) (run_of first (take k chars) ++ drop place elements) (new_front id (take place elements) (drop place elements) fresh)
    (new-append id (run_of first (take k chars)) (drop place elements)
    (run_lacks id first (take k chars) (omega (arith, length-take-le k chars (omega arith))))
    (new_back id (take place elements) (drop place elements) fresh))

-- one more element of a run came
pub run_more : (first : ElemId) (k : ℕ) (chars : List ℕ) (elements now : List Element) (place count end ch : ℕ) → place ≤ length elements → k < length chars
    → now ≡ take place elements ++ (run_of first (take k chars) ++ drop place elements) → count ≡ length elements - place → end ≡ length now - count
    → ch ≡ get_or chars k ch
    → insert now end (record { id = shifted first k; ch = ch; alive = true }) ≡ take place elements ++ (run_of first (take (k + 1) chars) ++ drop place elements)
run_more first k chars elements now place count end ch within l is c p read =
    let run : List Element = run_of first (take k chars) in
    let last : List Element = drop place elements in
    let new : Element = record { id = shifted first k; ch = ch; alive = true } in
    let split : now ≡ (take place elements ++ run) ++ last = is ∙ sym (append_assoc (take place elements) run last) in
    ap (λ l. insert l end new) split
    ∙ insert_before (take place elements ++ run) last new count end (c ∙ sym (length-drop place elements)) (p ∙ ap (λ l. length l - count) split)
    ∙ append_assoc (take place elements) run (new ∷ last)
    ∙ ap (λ l. take place elements ++ l) (
    sym (append_assoc run (new ∷ []) last)
    ∙ ap (λ l. l ++ last) (
    ap (λ n. run ++ record { id = shifted first n; ch = ch; alive = true } ∷ []) (sym (length-take-le k chars (omega arith)))
    ∙ sym (run_push first (take k chars) ch)
    ∙ ap (λ c. run_of first (take k chars ++ c ∷ [])) read
    ∙ ap (run_of first) (sym (take_more chars k ch l))))
