-- Reading values up to the end in a loop: what the loop has read, in front of what is still to be read, is what all reading gives.
use Rattle.std.proofs.Common.{◌≡◌, ℕ, zero, suc, ◌-◌, ◌<◌, List, [], ◌∷◌, ◌++◌, length, Result, Ok, Err, refl, sym, ap, subst, ◌∙◌, append_assoc, arith}
use Rattle.std.proofs.lemmas.List.{append-nil, length-append}
use Rattle.byte_format.specs.declared.faults.Outside.{Outside}
use Rattle.byte_format.specs.Format.{Format, IsBytes, ◌>>=◌}
use Rattle.byte_format.specs.Lists.{up_to}
use Rattle.byte_format.proofs.Lawful.{IsSound, Lawful, bytes_behind}
use Rattle.journal_format.specs.declared.unread.Unread.{Unread}
use Rattle.journal_format.specs.declared.unread.Unread.TheVariants as unread
use Rattle.journal_format.specs.Read.{IsOutside, FindsFault}

-- a reading with the values that were read before it in front
abbrev pub behind_all : {A : Type 0} → List A → Result (List A) Outside → Result (List A) Outside
behind_all front reading = reading >>= λ values. Ok (front ++ values)

abbrev with_first : {A : Type 0} → A → List A → Result (List A) Outside
with_first a xs = Ok (a ∷ xs)

regrouped : {A : Type 0} (front : List A) (a : A) (reading : Result (List A) Outside) → behind_all front (reading >>= with_first a) ≡ behind_all (front ++ a ∷ []) reading
regrouped front a (Ok xs) = ap (λ (values : List _). Ok values) (sym (append_assoc front (a ∷ []) xs))
regrouped front a (Err fault) = refl

-- one value more was read
pub goes_on : {A : Type 0} (f : Format A) (front : List A) (fuel : ℕ) (bytes : List ℕ) (a : A) (rest : List ℕ) (all : Result (List A) Outside) → 0 < length bytes
    → 0 < fuel → f.reads bytes ≡ Ok (a, rest) → behind_all front (up_to f fuel bytes) ≡ all → behind_all (front ++ a ∷ []) (up_to f (fuel - 1) rest) ≡ all
goes_on f front zero bytes a rest all some enough read so_far = absurd (omega (arith, enough))
goes_on f front (suc fuel) [] a rest all some enough read so_far = absurd (omega (arith, some))
goes_on f front (suc fuel) (b ∷ bytes) a rest all some enough read so_far =
    let less : suc fuel - 1 ≡ fuel = omega arith in
    let step : behind_all front (up_to f (suc fuel) (b ∷ bytes)) ≡ behind_all front (up_to f fuel rest >>= with_first a) = rw read refl in
    rw less (sym (regrouped front a (up_to f fuel rest)) ∙ sym step ∙ so_far)

pub outside_on : {A B : Type 0} (reading : Result A Outside) (next : A → Result B Outside) → IsOutside reading → IsOutside (reading >>= next)
outside_on (Ok a) next outside = absurd outside
outside_on (Err fault) next outside = outside

none_listed : {A : Type 0} (f : Format A) (front : List A) (fuel : ℕ) (bytes : List ℕ) → 0 < length bytes → IsOutside (f.reads bytes)
    → IsOutside (behind_all front (up_to f fuel bytes))
none_listed f front zero [] some outside = absurd (omega (arith, some))
none_listed f front zero (b ∷ bytes) some outside = tt
none_listed f front (suc fuel) [] some outside = absurd (omega (arith, some))
none_listed f front (suc fuel) (b ∷ bytes) some outside =
    outside_on (f.reads (b ∷ bytes) >>= λ a. up_to f fuel a.1 >>= with_first a.0) (λ values. Ok (front ++ values))
    (outside_on (f.reads (b ∷ bytes)) (λ a. up_to f fuel a.1 >>= with_first a.0) outside)

-- the next value was not read, and so not all
pub ends : {A : Type 0} (f : Format A) (fault : Unread) (front : List A) (fuel : ℕ) (bytes : List ℕ) (all : Result (List A) Outside) → 0 < length bytes
    → FindsFault fault (f.reads bytes) → behind_all front (up_to f fuel bytes) ≡ all → FindsFault fault all
ends f unread.Memory front fuel bytes all some failed so_far = tt
ends f unread.Outside front fuel bytes all some failed so_far = subst IsOutside so_far (none_listed f front fuel bytes some failed)

-- nothing is left to be read
pub is_done : {A : Type 0} (f : Format A) (front : List A) (fuel : ℕ) (bytes : List ℕ) (all : Result (List A) Outside) → length bytes ≡ 0
    → behind_all front (up_to f fuel bytes) ≡ all → all ≡ Ok front
is_done f front zero [] all none so_far = sym so_far ∙ ap (λ (values : List _). Ok values) (append-nil front)
is_done f front (suc fuel) [] all none so_far = sym so_far ∙ ap (λ (values : List _). Ok values) (append-nil front)
is_done f front fuel (b ∷ bytes) all none so_far = absurd (omega (arith, none))

-- what stands behind a value is shorter
pub shorter : {A : Type 0} (f : Format A) → Lawful f → ((a : A) → 0 < length (f.spelled a)) → (bytes : List ℕ) (a : A) (rest : List ℕ) → IsBytes bytes
    → f.reads bytes ≡ Ok (a, rest) → length rest < length bytes
shorter f lawful some bytes a rest fits read =
    let sound : IsSound f bytes (Ok (a, rest)) = subst (IsSound f bytes) read (lawful.sound bytes fits) in
    omega (arith, some a, ap length sound.1, length-append (f.spelled a) rest)

-- what stands behind a value are bytes
pub behind_is : {A : Type 0} (f : Format A) → Lawful f → (bytes : List ℕ) (a : A) (rest : List ℕ) → IsBytes bytes → f.reads bytes ≡ Ok (a, rest) → IsBytes rest
behind_is f lawful bytes a rest fits read =
    let sound : IsSound f bytes (Ok (a, rest)) = subst (IsSound f bytes) read (lawful.sound bytes fits) in
    bytes_behind (f.spelled a) rest bytes sound.1 fits
