-- Reading so many values in a loop: what the loop has read, in front of what is still to be read, is what all reading gives.
use Rattle.std.proofs.Common.{◌≡◌, ℕ, suc, ◌+◌, ◌-◌, ◌<◌, ◌≤◌, List, [], ◌∷◌, ◌++◌, Result, Ok, Err, refl, sym, ap, ◌∙◌, append_assoc, arith}
use Rattle.std.proofs.lemmas.List.{append-nil}
use Rattle.byte_format.specs.Format.{Outside, Format, ◌>>=◌}
use Rattle.byte_format.specs.Lists.{chain}
use Rattle.byte_format.specs.Read.{FailsAs}
use Rattle.byte_format.specs.declared.faults.ReadFault.{ReadFault}
use Rattle.byte_format.specs.declared.faults.ReadFault.TheVariants.{Memory, At}

-- a reading with the values that were read before it in front
abbrev pub behind_values : {A : Type 0} → List A → Result (List A × List ℕ) Outside → Result (List A × List ℕ) Outside
behind_values front reading = reading >>= λ read. Ok (front ++ read.0, read.1)

abbrev beside : {A : Type 0} → A → List A × List ℕ → Result ((A × List A) × List ℕ) Outside
beside a read = Ok ((a, read.0), read.1)

abbrev joined : {A : Type 0} → (A × List A) × List ℕ → Result (List A × List ℕ) Outside
joined read = Ok (read.0.0 ∷ read.0.1, read.1)

regrouped : {A : Type 0} (front : List A) (a : A) (reading : Result (List A × List ℕ) Outside)
    → behind_values front ((reading >>= beside a) >>= joined) ≡ behind_values (front ++ a ∷ []) reading
regrouped front a (Ok read) = ap (λ (values : List _). Ok (values, read.1)) (simp append_assoc)
regrouped front a (Err fault) = refl

-- one value more was read
pub goes_on : {A S : Type 0} (any : A) (one : S → Format A) (next : S → A → S) (s : S) (front : List A) (count i : ℕ) (bytes : List ℕ) (a : A) (rest : List ℕ)
    (all : Result (List A × List ℕ) Outside) → i < count → (one s).reads bytes ≡ Ok (a, rest)
    → behind_values front ((chain any one next s (count - i)).reads bytes) ≡ all
    → behind_values (front ++ a ∷ []) ((chain any one next (next s a) (count - (i + 1))).reads rest) ≡ all
goes_on any one next s front count i bytes a rest all below read so_far =
    let left : count - i ≡ suc (count - (i + 1)) = omega arith in
    let behind = (chain any one next (next s a) (count - (i + 1))).reads rest in
    let step : behind_values front ((chain any one next s (count - i)).reads bytes) ≡ behind_values (front ++ a ∷ []) behind =
    rw (left, read) (regrouped front a behind) in
    sym step ∙ so_far

-- the next value was not read, and so not all
pub ends : {A S : Type 0} (any : A) (one : S → Format A) (next : S → A → S) (s : S) (fault : ReadFault) (front : List A) (count i : ℕ) (bytes : List ℕ)
    (all : Result (List A × List ℕ) Outside) → i < count → FailsAs fault ((one s).reads bytes)
    → behind_values front ((chain any one next s (count - i)).reads bytes) ≡ all → FailsAs fault all
ends any one next s Memory front count i bytes all below failed so_far = tt
ends any one next s (At fault) front count i bytes all below failed so_far =
    let left : count - i ≡ suc (count - (i + 1)) = omega arith in
    let step : behind_values front ((chain any one next s (count - i)).reads bytes) ≡ Err fault = rw (left, failed) refl in
    sym so_far ∙ step

-- no value is left to be read
pub is_done : {A S : Type 0} (any : A) (one : S → Format A) (next : S → A → S) (s : S) (front : List A) (count i : ℕ) (bytes : List ℕ)
    (all : Result (List A × List ℕ) Outside) → count ≤ i → behind_values front ((chain any one next s (count - i)).reads bytes) ≡ all → all ≡ Ok (front, bytes)
is_done any one next s front count i bytes all past so_far =
    let left : count - i ≡ 0 = omega arith in
    let step : behind_values front ((chain any one next s (count - i)).reads bytes) ≡ Ok (front, bytes) =
    rw left (ap (λ (values : List _). Ok (values, bytes)) (append-nil front)) in
    sym so_far ∙ step
