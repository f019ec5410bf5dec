-- Two lists whose items are tied place by place: what stands across, and what is tied where an item changes or one more comes.
use Rattle.std.proofs.Common.{◌≡◌, ◌⊎◌, inl, inr, ℕ, zero, suc, List, [], ◌∷◌, ◌++◌, length, Some, None, refl, ap, subst, arith}
use Rattle.std.specs.Prelude.{slice_get, slice_set}
use Rattle.std.specs.List.{AllZip}

-- the item across from one at a place
pub record Across {A B : Type 0} (R : A → B → Type 0) (ys : List B) (i : ℕ) (x : A) : Type 0 where
  pub item : B
  pub there : slice_get ys i ≡ Some item
  pub tied : R x item

pub across : {A B : Type 0} (R : A → B → Type 0) (xs : List A) (ys : List B) (i : ℕ) (x : A) → AllZip R xs ys
    → slice_get xs i ≡ Some x → Across R ys i x
across R [] ys i x tied found = cc
across R (z ∷ xs) [] i x tied found = absurd tied
across R (z ∷ xs) (y ∷ ys) zero x tied found =
    let same : Some z ≡ Some x = found in
    let one : z ≡ x = cc in record { item = y; there = refl; tied = subst (λ v. R v y) one tied.0 }
across R (z ∷ xs) (y ∷ ys) (suc i) x tied found =
    let rest = across R xs ys i x tied.1 found in record { item = rest.item; there = rest.there; tied = rest.tied }

-- where nothing stands, nothing stands across
pub none_across : {A B : Type 0} (R : A → B → Type 0) (xs : List A) (ys : List B) (i : ℕ) → AllZip R xs ys
    → slice_get xs i ≡ None → slice_get ys i ≡ None
none_across R [] [] i tied found = refl
none_across R [] (y ∷ ys) i tied found = absurd tied
none_across R (z ∷ xs) [] i tied found = absurd tied
none_across R (z ∷ xs) (y ∷ ys) zero tied found = cc
none_across R (z ∷ xs) (y ∷ ys) (suc i) tied found = none_across R xs ys i tied.1 found

-- what is tied may be tied otherwise
pub zip_each : {A B : Type 0} (R Q : A → B → Type 0) (xs : List A) (ys : List B)
    → ((j : ℕ) (x : A) (y : B) → slice_get xs j ≡ Some x → slice_get ys j ≡ Some y → R x y → Q x y) → AllZip R xs ys → AllZip Q xs ys
zip_each R Q [] [] each tied = tt
zip_each R Q [] (y ∷ ys) each tied = absurd tied
zip_each R Q (x ∷ xs) [] each tied = absurd tied
zip_each R Q (x ∷ xs) (y ∷ ys) each tied =
    (each zero x y refl refl tied.0, zip_each R Q xs ys (λ j a b at across r. each (suc j) a b at across r) tied.1)

-- one item of each list is replaced
pub zip_set : {A B : Type 0} (R Q : A → B → Type 0) (xs : List A) (ys : List B) (i : ℕ) (v : A) (u : B)
    → ((j : ℕ) (x : A) (y : B) → (j ≡ i → ⊥) → slice_get xs j ≡ Some x → slice_get ys j ≡ Some y → R x y → Q x y) → Q v u
    → AllZip R xs ys → AllZip Q (slice_set xs i v) (slice_set ys i u)
zip_set R Q [] [] i v u others one tied = tt
zip_set R Q [] (y ∷ ys) i v u others one tied = absurd tied
zip_set R Q (x ∷ xs) [] i v u others one tied = absurd tied
zip_set R Q (x ∷ xs) (y ∷ ys) zero v u others one tied =
    (one, zip_each R Q xs ys (λ j a b at across r. others (suc j) a b (λ same. omega (arith, same)) at across r) tied.1)
zip_set R Q (x ∷ xs) (y ∷ ys) (suc i) v u others one tied = (
  others zero x y (λ same. omega (arith, same)) refl refl tied.0,
  zip_set R Q xs ys i v u (λ j a b apart at across r. others (suc j) a b (λ same. apart (omega (arith, same))) at across r) one tied.1,
)

-- one more comes to each
pub zip_push : {A B : Type 0} (R : A → B → Type 0) (xs : List A) (ys : List B) (x : A) (y : B) → AllZip R xs ys → R x y
    → AllZip R (xs ++ x ∷ []) (ys ++ y ∷ [])
zip_push R [] [] x y tied one = (one, tt)
zip_push R [] (b ∷ ys) x y tied one = absurd tied
zip_push R (a ∷ xs) [] x y tied one = absurd tied
zip_push R (a ∷ xs) (b ∷ ys) x y tied one = (tied.0, zip_push R xs ys x y tied.1 one)

-- an item is replaced by itself
pub set_itself : {A : Type 0} (xs : List A) (i : ℕ) (x : A) → slice_get xs i ≡ Some x → slice_set xs i x ≡ xs
set_itself [] i x found = refl
set_itself (y ∷ xs) zero x found =
    let same : Some y ≡ Some x = found in
    let one : x ≡ y = cc in ap (λ z. z ∷ xs) one
set_itself (y ∷ xs) (suc i) x found = ap (λ zs. y ∷ zs) (set_itself xs i x found)

-- what stands where one more was put behind
pub pushed_at : {A : Type 0} (xs : List A) (x : A) (i : ℕ) (y : A) → slice_get (xs ++ x ∷ []) i ≡ Some y
    → (slice_get xs i ≡ Some y) ⊎ ((i ≡ length xs) × (y ≡ x))
pushed_at [] x zero y found =
    let same : Some x ≡ Some y = found in
    let one : y ≡ x = cc in inr (refl, one)
pushed_at [] x (suc i) y found = cc
pushed_at (z ∷ xs) x zero y found = inl found
pushed_at (z ∷ xs) x (suc i) y found = elim (pushed_at xs x i y found) [
  | inl kept ↦ inl kept
  | inr new ↦ inr (ap (λ n. suc n) new.0, new.1)
]
