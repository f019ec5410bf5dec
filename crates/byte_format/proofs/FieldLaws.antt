-- Single fields are lawful.
use Rattle.std.proofs.Common.{◌≡◌, ℕ, ◌<◌, ◌≤◌, Bool, true, false, ltb, List, [], ◌∷◌, ◌++◌, length, Ok, refl, sym, ap, ◌∙◌, arith}
use Rattle.std.specs.Int.{Width, byte_len, from_be_bytes, to_be_bytes}
use Rattle.std.proofs.lemmas.Bool.{ltb-false, le-ltb}
use Rattle.std.proofs.lemmas.List.{take_at, drop_at, take-append-drop, length-append, length-take}
use Rattle.byte_format.specs.Format.{Kind, IsBytes}
use Rattle.byte_format.specs.Fields.{taken_if, taking, first_byte, byte, constant, never, number}
use Rattle.byte_format.proofs.Lawful.{IsSound, Lawful, bytes_in_front, then_sound}

taken_sound : (n : ℕ) (bytes : List ℕ) → IsBytes bytes → (b : Bool) → ltb (length bytes) n ≡ b → IsSound (taking n) bytes (taken_if b n bytes)
taken_sound n bytes fits true short = omega arith
taken_sound n bytes fits false enough =
    let long : n ≤ length bytes = ltb-false _ _ enough in
    ((omega (arith, length-take n bytes), bytes_in_front n bytes fits), sym (take-append-drop n bytes))

pub taken_again : (n : ℕ) (front rest : List ℕ) → length front ≡ n → (taking n).reads (front ++ rest) ≡ Ok (front, rest)
taken_again n front rest long =
    let enough : ltb (length (front ++ rest)) n ≡ false = le-ltb _ _ (omega (arith, length-append front rest, long)) in
    rw (enough, take_at front rest n long, drop_at front rest n long) refl

pub taking_lawful : (n : ℕ) → Lawful (taking n)
taking_lawful n = record {
  sound = λ bytes fits. taken_sound n bytes fits (ltb (length bytes) n) refl;
  again = λ front rest fits. taken_again n front rest fits.0;
}

byte_sound : (bytes : List ℕ) → IsBytes bytes → IsSound byte bytes (first_byte bytes)
byte_sound [] fits = omega arith
byte_sound (b ∷ bytes) fits = (fits 0, refl)

pub byte_lawful : Lawful byte
byte_lawful = record { sound = byte_sound; again = λ b rest fits. refl }

pub constant_lawful : {A : Type 0} (known : A) → Lawful (constant known)
constant_lawful known = record { sound = λ bytes fits. (refl, refl); again = λ a rest is. ap (λ b. Ok (b, rest)) is }

pub never_lawful : {A : Type 0} (kind : Kind) → Lawful (never {A = A} kind)
never_lawful kind = record { sound = λ bytes fits. omega arith; again = λ a rest none. absurd none }

-- numbers of this width, below the limit, and its bytes are one another's
pub record IsWide (width : Width) (limit : ℕ) : Type 0 where
  pub len : (n : ℕ) → length (to_be_bytes width n) ≡ byte_len width
  pub back : (bytes : List ℕ) → length bytes ≡ byte_len width → IsBytes bytes → to_be_bytes width (from_be_bytes width bytes) ≡ bytes
  pub again : (n : ℕ) → n < limit → from_be_bytes width (to_be_bytes width n) ≡ n
  pub below : (bytes : List ℕ) → IsBytes bytes → from_be_bytes width bytes < limit

pub number_lawful : (width : Width) (limit : ℕ) → IsWide width limit → Lawful (number width limit)
number_lawful width limit wide = record {
  sound = λ bytes fits.
      then_sound (taking (byte_len width)) (number width limit) bytes bytes ((taking (byte_len width)).reads bytes)
      (λ read. Ok (from_be_bytes width read.0, read.1)) (omega arith) ((taking_lawful (byte_len width)).sound bytes fits)
      (λ read fit is. (wide.below read.0 fit.1, is ∙ ap (λ (front : List ℕ). front ++ read.1) (sym (wide.back read.0 fit.0 fit.1))));
  again = λ n rest fits. rw (taken_again (byte_len width) (to_be_bytes width n) rest (wide.len n), wide.again n fits) refl;
}
