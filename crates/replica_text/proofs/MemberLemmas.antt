-- Which ids are among elements.
use Rattle.std.proofs.Common.{◌≡◌, ◌⊎◌, Bool, true, false, ◌||◌, List, [], ◌∷◌, ◌++◌, refl, ap, ◌∙◌, subst, inl, inr}
use Rattle.tt_base.specs.Elements.{IsNew, AreDistinct}
use Rattle.tt_base.specs.declared.ids.ElemId.{ElemId}
use Rattle.tt_base.specs.declared.elements.Element.{Element}
use Rattle.tt_base.proofs.ElementLemmas.{new-append, new_front, new_back}
use Rattle.replica_text.specs.Ids.{same, is_known}
use Rattle.replica_text.proofs.OrderLemmas.{same_one, same_self, other_same, never}

abbrev pub Has : ElemId → List Element → Type 0
Has id [] = ⊥
Has id (e ∷ elements) = (e.id ≡ id) ⊎ Has id elements

pub has-append : (id : ElemId) (xs ys : List Element) → Has id (xs ++ ys) → Has id xs ⊎ Has id ys
has-append id [] ys h = inr h
has-append id (x ∷ xs) ys h = elim h [
  | inl e ↦ inl (inl e)
  | inr k ↦ elim (has-append id xs ys k) [ inl g ↦ inl (inr g) | inr g ↦ inr g ]
]

pub has_here : (id : ElemId) (xs ys : List Element) (e : Element) → e.id ≡ id → Has id (xs ++ e ∷ ys)
has_here id [] ys e h = inl h
has_here id (x ∷ xs) ys e h = inr (has_here id xs ys e h)

pub new_has : (id : ElemId) (xs : List Element) → IsNew id xs → Has id xs → ⊥
new_has id [] n h = h
new_has id (x ∷ xs) n h = elim h [ inl e ↦ n.0 e | inr k ↦ new_has id xs n.1 k ]

pub front_distinct : (xs ys : List Element) → AreDistinct (xs ++ ys) → AreDistinct xs
front_distinct [] ys d = tt
front_distinct (x ∷ xs) ys d = (new_front x.id xs ys d.0, front_distinct xs ys d.1)

pub back_distinct : (xs ys : List Element) → AreDistinct (xs ++ ys) → AreDistinct ys
back_distinct [] ys d = d
back_distinct (x ∷ xs) ys d = back_distinct xs ys d.1

-- of two parts of distinct elements, an id is in one alone
pub not_behind : (id : ElemId) (xs ys : List Element) → AreDistinct (xs ++ ys) → Has id xs → IsNew id ys
not_behind id [] ys d h = absurd h
not_behind id (x ∷ xs) ys d h = elim h [
  | inl e ↦ subst (λ (i : ElemId). IsNew i ys) e (new_back x.id xs ys d.0)
  | inr k ↦ not_behind id xs ys d.1 k
]

pub not_before : (id : ElemId) (xs ys : List Element) → AreDistinct (xs ++ ys) → Has id ys → IsNew id xs
not_before id [] ys d h = tt
not_before id (x ∷ xs) ys d h = (
  (λ e. new_has id ys (subst (λ (i : ElemId). IsNew i ys) e (new_back x.id xs ys d.0)) h),
  not_before id xs ys d.1 h,
)

pub or_cases : {G : Type 0} (a b : Bool) → (a || b) ≡ true → (a ≡ true → G) → (b ≡ true → G) → G
or_cases true b e left right = left refl
or_cases false b e left right = right e

-- what is known is there, and what is not known is new
pub known_has : (id : ElemId) (elements : List Element) → is_known elements id ≡ true → Has id elements
known_has id [] h = cc
known_has id (e ∷ elements) h =
    or_cases (same e.id id) (is_known elements id) h (λ k. inl (same_one e.id id k)) (λ k. inr (known_has id elements k))

pub or_true : (a : Bool) → (a || true) ≡ true
or_true true = refl
or_true false = refl

pub has_known : (id : ElemId) (elements : List Element) → Has id elements → is_known elements id ≡ true
has_known id [] h = absurd h
has_known id (e ∷ elements) h = elim h [
  | inl is ↦ ap (λ b. b || is_known elements id) (ap (λ (i : ElemId). same i id) is ∙ same_self id)
  | inr k ↦ ap (λ b. same e.id id || b) (has_known id elements k) ∙ or_true (same e.id id)
]

pub none_left : (a b : Bool) → (a || b) ≡ false → a ≡ false
none_left true b e = e
none_left false b e = refl

pub none_right : (a b : Bool) → (a || b) ≡ false → b ≡ false
none_right true b e = cc
none_right false b e = e

pub unknown_new : (id : ElemId) (elements : List Element) → is_known elements id ≡ false → IsNew id elements
unknown_new id [] h = tt
unknown_new id (e ∷ elements) h = (
  (λ k. never (same e.id id) (subst (λ (i : ElemId). same e.id i ≡ true) k (same_self e.id)) (none_left (same e.id id) (is_known elements id) h)),
  unknown_new id elements (none_right (same e.id id) (is_known elements id) h),
)

pub new_unknown : (id : ElemId) (elements : List Element) → IsNew id elements → is_known elements id ≡ false
new_unknown id [] h = refl
new_unknown id (e ∷ elements) h = ap (λ b. b || is_known elements id) (other_same e.id id h.0) ∙ new_unknown id elements h.1

-- one element more that has another id
pub new_with : (id : ElemId) (xs ys : List Element) (e : Element) → IsNew id (xs ++ ys) → (e.id ≡ id → ⊥) → IsNew id (xs ++ e ∷ ys)
new_with id xs ys e h n = new-append id xs (e ∷ ys) (new_front id xs ys h) (n, new_back id xs ys h)
