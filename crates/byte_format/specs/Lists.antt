-- Formats of lists: behind their number, each after the one before, up to the end.
use Rattle.std.specs.Prelude.{ℕ, zero, suc, Bool, List, [], ◌∷◌, length, Option, Some, Result, Ok}
use Rattle.byte_format.specs.Format.{Kind, Rest, Outside, Format, outside, ◌>>=◌}
use Rattle.byte_format.specs.Fields.{taking, constant}
use Rattle.byte_format.specs.Parts.{depends, seen_as, checked}

-- how many there are, and then they
abbrev pub counted : {A : Type 0} → Format ℕ → (ℕ → Format (List A)) → Format (List A)
counted count g = seen_as (λ x. x.1) (λ xs. (length xs, xs)) (depends count g)

-- a length, and then so many bytes, which pass a test
abbrev pub sized : Format ℕ → (List ℕ → Bool) → Kind → Format (List ℕ)
sized count test kind = counted count (λ n. checked test kind (taking n))

-- the first of a list and the others; where there is none, `any` stands for it
abbrev pub first_and_rest : {A : Type 0} → A → List A → A × List A
first_and_rest any [] = (any, [])
first_and_rest any (x ∷ xs) = (x, xs)

-- So many values, one behind the other. A state says what the next may be, and each value gives the state behind it.
-- `any` is some value of the type.
abbrev pub chain : {A S : Type 0} → A → (S → Format A) → (S → A → S) → S → ℕ → Format (List A)
chain any one next state zero = constant []
chain any one next state (suc n) =
    seen_as (λ x. x.0 ∷ x.1) (first_and_rest any) (depends (one state) (λ x. chain any one next (next state x) n))

-- so many values of one format
abbrev pub many : {A : Type 0} → A → Format A → ℕ → Format (List A)
many any f n = chain any (λ (state : ℕ). f) (λ state x. state) 0 n

-- the value before the next one
abbrev pub just : {A : Type 0} → Option A → A → Option A
just before x = Some x

-- values up to the end of the bytes; `fuel` is no smaller than their number, since each has a byte at least
abbrev pub up_to : {A : Type 0} → Format A → ℕ → List ℕ → Result (List A) Outside
up_to f fuel [] = Ok []
up_to f zero (b ∷ bytes) = outside Rest (b ∷ bytes)
up_to f (suc fuel) (b ∷ bytes) = f.reads (b ∷ bytes) >>= λ a. up_to f fuel a.1 >>= λ xs. Ok (a.0 ∷ xs)

-- all of the bytes as values, one behind the other
abbrev pub to_end : {A : Type 0} → Format A → List ℕ → Result (List A) Outside
to_end f bytes = up_to f (length bytes) bytes
