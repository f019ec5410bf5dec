-- What is spelled in bytes: digests, and characters in UTF-8.
use Rattle.std.proofs.Common.{◌≡◌, ℕ, zero, suc, ◌+◌, ◌/◌, ◌%◌, ◌<◌, Bool, true, false, cond, ltb, ◌&&◌, List, [], ◌∷◌, ◌++◌, inl, inr, refl, arith, lit<}
use Rattle.std.specs.Prelude.{encode_utf8, encode_utf8_all, slice_index}
use Rattle.std.specs.Int.{to_be_bytes, w32}
use Rattle.std.specs.Str.{all_scalars}
use Rattle.std.specs.List.{AllByRecursion}
use Rattle.std.proofs.lemmas.Bool.{ltb-true}
use Rattle.std.proofs.lemmas.Nat.{mod_below}
use Rattle.byte_format.specs.Format.{IsBytes}
use Rattle.sha2.specs.Sha256.{digest_bytes, sha256}
use lib.Utf8 as utf8

abbrev IsByte : ℕ → Type 0
IsByte b = b < 256

pub bytes_listed : (xs : List ℕ) → AllByRecursion IsByte xs → IsBytes xs
bytes_listed [] all i = lit< tt
bytes_listed (x ∷ xs) all zero = all.0
bytes_listed (x ∷ xs) all (suc i) = bytes_listed xs all.1 i

both_all : (xs ys : List ℕ) → AllByRecursion IsByte xs → AllByRecursion IsByte ys → AllByRecursion IsByte (xs ++ ys)
both_all [] ys front back = back
both_all (x ∷ xs) ys front back = (front.0, both_all xs ys front.1 back)

-- ---- digests

word_bytes : (n : ℕ) → AllByRecursion IsByte (to_be_bytes w32 n)
word_bytes n = (mod_below _ 256 (lit< tt), (mod_below _ 256 (lit< tt), (mod_below _ 256 (lit< tt), (mod_below _ 256 (lit< tt), tt))))

digest_all : (h : List ℕ) (n : ℕ) → AllByRecursion IsByte (digest_bytes h n)
unfolding digest_bytes
digest_all h zero = tt
digest_all h (suc n) = both_all (digest_bytes h n) (to_be_bytes w32 (slice_index h n)) (digest_all h n) (word_bytes (slice_index h n))

pub digest_is_bytes : (message : List ℕ) → IsBytes (sha256 message)
unfolding sha256
digest_is_bytes message = bytes_listed (sha256 message) (digest_all _ 8)

-- ---- characters

next_byte : (bits : ℕ) → utf8.next bits < 256
next_byte bits = let lt : bits % 64 < 64 = mod_below bits 64 (lit< tt) in omega (arith, lt)

char_all : (c : ℕ) → utf8.scalar c ≡ true → AllByRecursion IsByte (encode_utf8 c)
unfolding utf8.encode
char_all c is = by (ltb c 128) (ltb c 2048) (ltb c 65536) refl refl refl where
  small : c < 1114112
  small = elim (utf8.scalar_cases c is) [
    | inl low ↦ omega (arith, low)
    | inr high ↦ high.1
  ]

  by : (p q r : Bool) → ltb c 128 ≡ p → ltb c 2048 ≡ q → ltb c 65536 ≡ r
      → AllByRecursion IsByte (cond p (c ∷ []) (cond q ((192 + c / 64) ∷ utf8.next c ∷ [])
      (cond r ((224 + c / 4096) ∷ utf8.next (c / 64) ∷ utf8.next c ∷ []) ((240 + c / 262144) ∷ utf8.next (c / 4096) ∷ utf8.next (c / 64) ∷ utf8.next c ∷ []))))
  by true q r one two three = (let lt : c < 128 = ltb-true c 128 one in omega (arith, lt), tt)
  by false true r one two three = (let lt : c < 2048 = ltb-true c 2048 two in omega (arith, lt), (next_byte c, tt))
  by false false true one two three = (let lt : c < 65536 = ltb-true c 65536 three in omega (arith, lt), (next_byte (c / 64), (next_byte c, tt)))
  by false false false one two three = (omega (arith, small), (next_byte (c / 4096), (next_byte (c / 64), (next_byte c, tt))))

both_left : (a b : Bool) → a && b ≡ true → a ≡ true
both_left true b both = refl
both_left false b both = absurd cc

both_right : (a b : Bool) → a && b ≡ true → b ≡ true
both_right true b both = both
both_right false b both = absurd cc

text_all : (text : List ℕ) → all_scalars text ≡ true → AllByRecursion IsByte (encode_utf8_all text)
text_all [] is = tt
text_all (c ∷ text) is =
    both_all (encode_utf8 c) (encode_utf8_all text) (char_all c (both_left (utf8.scalar c) (all_scalars text) is))
    (text_all text (both_right (utf8.scalar c) (all_scalars text) is))

pub text_is_bytes : (text : List ℕ) → all_scalars text ≡ true → IsBytes (encode_utf8_all text)
text_is_bytes text is = bytes_listed (encode_utf8_all text) (text_all text is)
