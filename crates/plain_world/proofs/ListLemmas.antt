-- Where the items of a changed list come from.
use Rattle.std.proofs.Common.{◌≡◌, ◌⊎◌, inl, inr, ℕ, zero, suc, List, [], ◌∷◌, ◌++◌, map, Some, refl, ap}
use Rattle.std.specs.Prelude.{slice_get, slice_set}
use Rattle.bridge_world.specs.Lists.{one_and_others}

-- an item of a list, and what it was before
pub record Came {A : Type 0} (xs : List A) (i : ℕ) (before : A → Type 0) : Type 0 where
  pub item : A
  pub there : slice_get xs i ≡ Some item
  pub was : before item

pub from_map : {A B : Type 0} (f : A → B) (xs : List A) (i : ℕ) (y : B) → slice_get (map f xs) i ≡ Some y
    → Came xs i (λ x. y ≡ f x)
from_map f [] i y found = cc
from_map f (x ∷ xs) zero y found = let same : Some (f x) ≡ Some y = found in record { item = x; there = refl; was = cc }
from_map f (x ∷ xs) (suc i) y found =
    let rest = from_map f xs i y found in record { item = rest.item; there = rest.there; was = rest.was }

up_one : {i j : ℕ} → i ≡ j → suc i ≡ suc j
up_one e = ap (λ n. suc n) e

-- what stands where one item was replaced
pub from_set : {A : Type 0} (xs : List A) (i j : ℕ) (v y : A) → slice_get (slice_set xs i v) j ≡ Some y
    → (slice_get xs j ≡ Some y) ⊎ ((j ≡ i) × (y ≡ v))
from_set [] i j v y found = inl found
from_set (x ∷ xs) zero zero v y found = let same : Some v ≡ Some y = found in inr (refl, cc)
from_set (x ∷ xs) zero (suc j) v y found = inl found
from_set (x ∷ xs) (suc i) zero v y found = inl found
from_set (x ∷ xs) (suc i) (suc j) v y found =
    elim (from_set xs i j v y found) [ inl kept ↦ inl kept | inr set ↦ inr (up_one set.0, set.1) ]

pub at_set : {A : Type 0} (xs : List A) (i : ℕ) (v x : A) → slice_get xs i ≡ Some x → slice_get (slice_set xs i v) i ≡ Some v
at_set [] i v x found = cc
at_set (y ∷ xs) zero v x found = refl
at_set (y ∷ xs) (suc i) v x found = at_set xs i v x found

pub beside_set : {A : Type 0} (xs : List A) (i j : ℕ) (v : A) → (j ≡ i → ⊥) → slice_get (slice_set xs i v) j ≡ slice_get xs j
beside_set [] i j v apart = refl
beside_set (x ∷ xs) zero zero v apart = absurd (apart refl)
beside_set (x ∷ xs) zero (suc j) v apart = refl
beside_set (x ∷ xs) (suc i) zero v apart = refl
beside_set (x ∷ xs) (suc i) (suc j) v apart = beside_set xs i j v (λ e. apart (up_one e))

-- what stands where one more was put behind
pub from_push : {A : Type 0} (xs : List A) (x : A) (i : ℕ) (y : A) → slice_get (xs ++ x ∷ []) i ≡ Some y
    → (slice_get xs i ≡ Some y) ⊎ (y ≡ x)
from_push [] x zero y found = let same : Some x ≡ Some y = found in inr cc
from_push [] x (suc i) y found = cc
from_push (z ∷ xs) x zero y found = inl found
from_push (z ∷ xs) x (suc i) y found = from_push xs x i y found

pub at_push : {A : Type 0} (xs : List A) (x : A) (i : ℕ) (y : A) → slice_get xs i ≡ Some y → slice_get (xs ++ x ∷ []) i ≡ Some y
at_push [] x i y found = cc
at_push (z ∷ xs) x zero y found = found
at_push (z ∷ xs) x (suc i) y found = at_push xs x i y found

-- what stands where one item was changed in one way, and all others in another
pub from_one_and_others : {A : Type 0} (f g : A → A) (n : ℕ) (xs : List A) (i : ℕ) (y : A)
    → slice_get (one_and_others f g n xs) i ≡ Some y → Came xs i (λ x. ((i ≡ n) × (y ≡ f x)) ⊎ (y ≡ g x))
from_one_and_others f g n [] i y found = cc
from_one_and_others f g zero (x ∷ xs) zero y found =
    let same : Some (f x) ≡ Some y = found in record { item = x; there = refl; was = inl (refl, cc) }
from_one_and_others f g zero (x ∷ xs) (suc i) y found =
    let rest = from_map g xs i y found in record { item = rest.item; there = rest.there; was = inr rest.was }
from_one_and_others f g (suc n) (x ∷ xs) zero y found =
    let same : Some (g x) ≡ Some y = found in record { item = x; there = refl; was = inr (cc) }
from_one_and_others f g (suc n) (x ∷ xs) (suc i) y found =
    let rest = from_one_and_others f g n xs i y found in
    record {
      item = rest.item;
      there = rest.there;
      was = elim rest.was [ inl one ↦ inl (up_one one.0, one.1) | inr other ↦ inr other ];
    }
