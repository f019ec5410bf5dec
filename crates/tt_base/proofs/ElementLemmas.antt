-- The ids of elements, which an insertion and a deletion leave distinct.
use Rattle.std.proofs.Common.{◌≡◌, ℕ, zero, suc, ◌+◌, ◌<◌, List, [], ◌∷◌, ◌++◌, Some, length, get_or, take, drop, sym, ap, ◌∙◌, subst, arith, slice_set}
use Rattle.std.specs.Prelude.{option_map}
use Rattle.std.specs.List.{insert}
use Rattle.std.proofs.lemmas.List.{take-append-drop, take_more}
use Rattle.std.proofs.lemmas.Option.{slice_get-get_or}
use Rattle.tt_base.specs.Elements.{id_at, IsNew, AreDistinct, dead, killed}
use Rattle.tt_base.specs.declared.ids.ElemId.{ElemId}
use Rattle.tt_base.specs.declared.elements.Element.{Element}

pub new-append : (id : ElemId) (xs ys : List Element) → IsNew id xs → IsNew id ys → IsNew id (xs ++ ys)
new-append id [] ys h k = k
new-append id (x ∷ xs) ys h k = (h.0, new-append id xs ys h.1 k)

pub new_front : (id : ElemId) (xs ys : List Element) → IsNew id (xs ++ ys) → IsNew id xs
new_front id [] ys h = tt
new_front id (x ∷ xs) ys h = (h.0, new_front id xs ys h.1)

pub new_back : (id : ElemId) (xs ys : List Element) → IsNew id (xs ++ ys) → IsNew id ys
new_back id [] ys h = h
new_back id (x ∷ xs) ys h = new_back id xs ys h.1

-- one element more, wherever it stands
pub distinct_with : (e : Element) (xs ys : List Element) → IsNew e.id (xs ++ ys) → AreDistinct (xs ++ ys) → AreDistinct (xs ++ e ∷ ys)
distinct_with e [] ys h d = (h, d)
distinct_with e (x ∷ xs) ys h d = (
  new-append x.id xs (e ∷ ys) (new_front x.id xs ys d.0) ((λ is. h.0 (sym is)), new_back x.id xs ys d.0),
  distinct_with e xs ys h.1 d.1,
)

pub distinct-insert : (elements : List Element) (place : ℕ) (e : Element) → IsNew e.id elements → AreDistinct elements → AreDistinct (insert elements place e)
distinct-insert elements place e h d =
    let whole : elements ≡ take place elements ++ drop place elements = sym (take-append-drop place elements) in
    distinct_with e (take place elements) (drop place elements) (subst (IsNew e.id) whole h) (subst AreDistinct whole d)

-- a tombstone keeps its id
pub new-killed : (id : ElemId) (elements : List Element) (place : ℕ) → IsNew id elements → IsNew id (killed elements place)
new-killed id [] place h = tt
new-killed id (e ∷ elements) zero h = h
new-killed id (e ∷ elements) (suc place) h = (h.0, new-killed id elements place h.1)

pub distinct-killed : (elements : List Element) (place : ℕ) → AreDistinct elements → AreDistinct (killed elements place)
distinct-killed [] place d = tt
distinct-killed (e ∷ elements) zero d = d
distinct-killed (e ∷ elements) (suc place) d = (new-killed e.id elements place d.0, distinct-killed elements place d.1)

-- the element that was read is written back as a tombstone
pub set_killed : (elements : List Element) (place : ℕ) (e : Element) → place < length elements → e ≡ get_or elements place e
    → slice_set elements place (dead e) ≡ killed elements place
set_killed [] place e within is = absurd (omega (arith, within))
set_killed (x ∷ elements) zero e within is = ap (λ (y : Element). dead y ∷ elements) is
set_killed (x ∷ elements) (suc place) e within is = ap (λ l. x ∷ l) (set_killed elements place e (omega (arith, within)) is)

-- one element more was looked at, and has another id
pub new_more : (id : ElemId) (elements : List Element) (place : ℕ) (d : Element) → place < length elements → IsNew id (take place elements)
    → ((get_or elements place d).id ≡ id → ⊥) → IsNew id (take (place + 1) elements)
new_more id elements place d within h other =
    subst (IsNew id) (sym (take_more elements place d within)) (new-append id (take place elements) (get_or elements place d ∷ []) h (other, tt))

-- the id of the element that was read
pub id_read : (id : ElemId) (elements : List Element) (place : ℕ) (d : Element) → place < length elements → (get_or elements place d).id ≡ id
    → id_at elements place ≡ Some id
id_read id elements place d within is =
    ap (option_map (λ (e : Element). e.id)) (slice_get-get_or elements place d within) ∙ ap Some is
