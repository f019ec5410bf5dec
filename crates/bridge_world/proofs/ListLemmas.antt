-- Facts of each item of a list and of one item, and lists of which one item changes.
use Rattle.std.proofs.Common.{◌≡◌, ◌⊎◌, ℕ, zero, suc, List, [], ◌∷◌, ◌++◌, map, Some, inl, inr, refl, subst}
use Rattle.std.specs.Option.{option_map}
use Rattle.bridge_world.specs.Lists.{Each, HasOne}
use Rattle.std.specs.Prelude.{slice_get}

pub each-append : {A : Type 0} (P : A → Type 0) (xs ys : List A) → Each P xs → Each P ys → Each P (xs ++ ys)
each-append P [] ys h k = k
each-append P (x ∷ xs) ys h k = (h.0, each-append P xs ys h.1 k)

pub each-map : {A B : Type 0} (P : A → Type 0) (Q : B → Type 0) (f : A → B) (xs : List A) → ((x : A) → P x → Q (f x)) → Each P xs → Each Q (map f xs)
each-map P Q f [] g h = tt
each-map P Q f (x ∷ xs) g h = (g x h.0, each-map P Q f xs g h.1)

pub each_weaker : {A : Type 0} (P Q : A → Type 0) (xs : List A) → ((x : A) → P x → Q x) → Each P xs → Each Q xs
each_weaker P Q [] g h = tt
each_weaker P Q (x ∷ xs) g h = (g x h.0, each_weaker P Q xs g h.1)

-- a fact that each image has
pub each_image : {A B : Type 0} (Q : B → Type 0) (f : A → B) (xs : List A) → ((x : A) → Q (f x)) → Each Q (map f xs)
each_image Q f [] g = tt
each_image Q f (x ∷ xs) g = (g x, each_image Q f xs g)

pub has_one-append : {A : Type 0} (P : A → Type 0) (xs ys : List A) → HasOne P (xs ++ ys) → HasOne P xs ⊎ HasOne P ys
has_one-append P [] ys h = inr h
has_one-append P (x ∷ xs) ys h = elim h [
  | inl here ↦ inl (inl here)
  | inr there ↦ elim (has_one-append P xs ys there) [
    | inl front ↦ inl (inr front)
    | inr behind ↦ inr behind
  ]
]

pub has_one_front : {A : Type 0} (P : A → Type 0) (xs ys : List A) → HasOne P xs → HasOne P (xs ++ ys)
has_one_front P [] ys h = absurd h
has_one_front P (x ∷ xs) ys h = elim h [ inl here ↦ inl here | inr there ↦ inr (has_one_front P xs ys there) ]

pub has_one_behind : {A : Type 0} (P : A → Type 0) (xs ys : List A) → HasOne P ys → HasOne P (xs ++ ys)
has_one_behind P [] ys h = h
has_one_behind P (x ∷ xs) ys h = inr (has_one_behind P xs ys h)

-- what holds of no item holds of none of them
pub has_none : {A : Type 0} (P Q : A → Type 0) (xs : List A) → ((x : A) → Q x → P x → ⊥) → Each Q xs → HasOne P xs → ⊥
has_none P Q [] never h k = k
has_none P Q (x ∷ xs) never h k = elim k [ inl here ↦ never x h.0 here | inr there ↦ has_none P Q xs never h.1 there ]

pub has_one_unmapped : {A : Type 0} (P : A → Type 0) (f : A → A) (xs : List A) → ((x : A) → P (f x) → P x) → HasOne P (map f xs) → HasOne P xs
has_one_unmapped P f [] g h = h
has_one_unmapped P f (x ∷ xs) g h = elim h [ inl here ↦ inl (g x here) | inr there ↦ inr (has_one_unmapped P f xs g there) ]

pub each_at : {A : Type 0} (P : A → Type 0) (xs : List A) (n : ℕ) (x : A) → slice_get xs n ≡ Some x → Each P xs → P x
each_at P [] n x is h = cc
each_at P (y ∷ xs) zero x is h = let same : y ≡ x = cc in subst P same h.0
each_at P (y ∷ xs) (suc n) x is h = each_at P xs n x is h.1

pub at-map : {A B : Type 0} (f : A → B) (xs : List A) (n : ℕ) → slice_get (map f xs) n ≡ option_map f (slice_get xs n)
at-map f [] n = refl
at-map f (x ∷ xs) zero = refl
at-map f (x ∷ xs) (suc n) = at-map f xs n

pub push_not_empty : {A : Type 0} (xs : List A) (x : A) → xs ++ x ∷ [] ≡ [] → ⊥
push_not_empty [] x e = cc
push_not_empty (y ∷ xs) x e = cc
