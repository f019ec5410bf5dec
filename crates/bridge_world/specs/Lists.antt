-- Words on lists, options and tests that the definitions share.
use Rattle.std.specs.Prelude.{ℕ, zero, suc, Bool, true, false, List, [], ◌∷◌, map, ◌⊎◌, Option, Some, None}

-- the fact holds of each item
abbrev pub Each : {A : Type 0} → (A → Type 0) → List A → Type 0
Each P [] = Unit {0}
Each P (x ∷ xs) = P x × Each P xs

-- the fact holds of some item
abbrev pub HasOne : {A : Type 0} → (A → Type 0) → List A → Type 0
HasOne P [] = ⊥
HasOne P (x ∷ xs) = P x ⊎ HasOne P xs

-- the item at a place changes in one way, and all others in another
abbrev pub one_and_others : {A : Type 0} → (A → A) → (A → A) → ℕ → List A → List A
one_and_others f g n [] = []
one_and_others f g zero (x ∷ xs) = f x ∷ map g xs
one_and_others f g (suc n) (x ∷ xs) = g x ∷ one_and_others f g n xs

-- no change
abbrev pub same : {A : Type 0} → A → A
same x = x

-- the change is made where the test fails
abbrev pub unless : {A : Type 0} → Bool → (A → A) → A → A
unless true f x = x
unless false f x = f x

-- a move is possible where the test holds
abbrev pub only_if : {A : Type 0} → Bool → A → Option A
only_if true x = Some x
only_if false x = None
