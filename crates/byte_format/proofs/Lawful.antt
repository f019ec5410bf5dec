-- A format is lawful where what is read is what is spelled, a fault lies within the bytes, and what is spelled is read again.
use Rattle.std.proofs.Common.{◌≡◌, ℕ, suc, ◌≤◌, ◌<◌, Bool, true, false, List, [], ◌∷◌, ◌++◌, length, get_or, take, Result, Ok, Err, refl, sym, ap, subst, ◌∙◌, inl, inr, eqb, arith}
use Rattle.std.proofs.lemmas.Bool.{cases_lt, eqb-true}
use Rattle.std.proofs.lemmas.List.{length-append, length-take, get_or-take, get_or_past, append-nil, nil_from_length}
use Rattle.byte_format.specs.Format.{Outside, IsBytes, Format, ◌>>=◌, ended_if, whole, IsEncoding}

-- a reading of these bytes is right: its value fits and is spelled by what was read, or its fault lies within the bytes
abbrev pub IsSound : {A : Type 0} → Format A → List ℕ → Result (A × List ℕ) Outside → Type 0
IsSound f bytes (Ok read) = f.Fits read.0 × (bytes ≡ f.spelled read.0 ++ read.1)
IsSound f bytes (Err fault) = fault.left ≤ length bytes

pub record Lawful {A : Type 0} (f : Format A) : Type 0 where
  pub sound : (bytes : List ℕ) → IsBytes bytes → IsSound f bytes (f.reads bytes)
  pub again : (a : A) (rest : List ℕ) → f.Fits a → f.reads (f.spelled a ++ rest) ≡ Ok (a, rest)

-- ---- bytes

pub bytes_behind : (front rest bytes : List ℕ) → bytes ≡ front ++ rest → IsBytes bytes → IsBytes rest
bytes_behind [] rest bytes is fits = subst IsBytes is fits
bytes_behind (b ∷ front) rest bytes is fits =
    bytes_behind front rest (front ++ rest) refl (λ i. subst (λ (all : List ℕ). get_or all (suc i) 0 < 256) is (fits (suc i)))

pub bytes_in_front : (n : ℕ) (bytes : List ℕ) → IsBytes bytes → IsBytes (take n bytes)
bytes_in_front n bytes fits i = elim (cases_lt i n) [
  | inl below ↦ rw (get_or-take n bytes i 0 below) (fits i)
  | inr past ↦ rw (get_or_past (take n bytes) i 0 (omega (arith, length-take n bytes))) (omega arith)
]

pub shorter_behind : (front rest bytes : List ℕ) → bytes ≡ front ++ rest → length rest ≤ length bytes
shorter_behind front rest bytes is = rw is (omega (arith, length-append front rest))

-- ---- one reading behind another

-- A right reading, and what reads on behind it. The whole may begin earlier than the first reading does.
pub then_sound : {A B : Type 0} (f : Format A) (whole_format : Format B) (bytes total : List ℕ) (reading : Result (A × List ℕ) Outside)
    (next : A × List ℕ → Result (B × List ℕ) Outside) → length bytes ≤ length total → IsSound f bytes reading
    → ((read : A × List ℕ) → f.Fits read.0 → bytes ≡ f.spelled read.0 ++ read.1 → IsSound whole_format total (next read))
    → IsSound whole_format total (reading >>= next)
then_sound f whole_format bytes total (Ok read) next within sound on = on read sound.0 sound.1
then_sound f whole_format bytes total (Err fault) next within sound on = omega (arith, sound, within)

-- ---- the whole of the bytes

-- a reading of all the bytes is right
abbrev pub IsWhollySound : {A : Type 0} → Format A → List ℕ → Result A Outside → Type 0
IsWhollySound f bytes (Ok a) = IsEncoding f bytes a
IsWhollySound f bytes (Err fault) = fault.left ≤ length bytes

ended_sound : {A : Type 0} (f : Format A) (bytes : List ℕ) (read : A × List ℕ) → f.Fits read.0 → bytes ≡ f.spelled read.0 ++ read.1
    → (b : Bool) → eqb (length read.1) 0 ≡ b → IsWhollySound f bytes (ended_if b read)
ended_sound f bytes read fits is true ended =
    let none : read.1 ≡ [] = nil_from_length read.1 (eqb-true _ _ ended) in
    record { fits = fits; spelling = is ∙ ap (λ rest. f.spelled read.0 ++ rest) none ∙ append-nil (f.spelled read.0) }
ended_sound f bytes read fits is false more = shorter_behind (f.spelled read.0) read.1 bytes is

whole_of : {A : Type 0} (f : Format A) (bytes : List ℕ) (reading : Result (A × List ℕ) Outside) → IsSound f bytes reading
    → IsWhollySound f bytes (reading >>= λ read. ended_if (eqb (length read.1) 0) read)
whole_of f bytes (Ok read) sound = ended_sound f bytes read sound.0 sound.1 (eqb (length read.1) 0) refl
whole_of f bytes (Err fault) sound = sound

pub wholly_sound : {A : Type 0} (f : Format A) → Lawful f → (bytes : List ℕ) → IsBytes bytes → IsWhollySound f bytes (whole f bytes)
wholly_sound f lawful bytes fits = whole_of f bytes (f.reads bytes) (lawful.sound bytes fits)

-- what is spelled is read as itself
pub wholly_again : {A : Type 0} (f : Format A) → Lawful f → (bytes : List ℕ) (a : A) → IsEncoding f bytes a → whole f bytes ≡ Ok a
wholly_again f lawful bytes a encoding =
    let read : f.reads bytes ≡ Ok (a, []) = ap f.reads (encoding.spelling ∙ sym (append-nil (f.spelled a))) ∙ lawful.again a [] encoding.fits in
    rw read refl

-- what is read as a value is its encoding
pub wholly_read : {A : Type 0} (f : Format A) → Lawful f → (bytes : List ℕ) (a : A) → IsBytes bytes → whole f bytes ≡ Ok a → IsEncoding f bytes a
wholly_read f lawful bytes a fits read = subst (IsWhollySound f bytes) read (wholly_sound f lawful bytes fits)

-- the first field outside the format begins within the bytes, or where they end
pub wholly_within : {A : Type 0} (f : Format A) → Lawful f → (bytes : List ℕ) (fault : Outside) → IsBytes bytes → whole f bytes ≡ Err fault → fault.left ≤ length bytes
wholly_within f lawful bytes fault fits read = subst (IsWhollySound f bytes) read (wholly_sound f lawful bytes fits)

-- bytes are the encoding of one value
pub encoding_is_unique : {A : Type 0} (f : Format A) → Lawful f → (bytes : List ℕ) (a b : A) → IsEncoding f bytes a → IsEncoding f bytes b → a ≡ b
encoding_is_unique {A} f lawful bytes a b first second =
    let first_read : whole f bytes ≡ Ok a = wholly_again f lawful bytes a first in
    let second_read : whole f bytes ≡ Ok b = wholly_again f lawful bytes b second in
    cc
