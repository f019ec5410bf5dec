-- Which bytes a plain text has, and how it is decoded.
use Rattle.std.proofs.Common.{◌≡◌, ◌≢◌, ℕ, ◌+◌, ◌*◌, ◌<◌, ◌≤◌, Bool, true, false, ◌||◌, ◌==◌, List, [], ◌∷◌, length, get_or, drop, All, sym, refl, ap, ◌∙◌, subst, ⊎_elim, arith}
use Rattle.std.specs.Char.{digit_value}
use Rattle.std.proofs.lemmas.Bool.{cases_Bool, cond-true, cond-false, and_parts}
use Rattle.std.proofs.lemmas.Bool.Decides.{nat_tests}
use Rattle.std.proofs.lemmas.List.Elements.{All-nil, All-cons}
use Rattle.percent_encoding.specs.Percent.{IsKept, is_escape, percent_decode}
use Rattle.percent_encoding.proofs.PercentLemmas.{percent_decode_not_percent, percent_decode_escape}
use Rattle.url.specs.declared.sets.TheConstants.{PATH}
use Rattle.url.proofs.SetLemmas.{kept_from_passes}
use Rattle.file_uri.specs.UriOf.{is_kept}
use Rattle.file_uri.specs.PlainUri.{BeginsWith, is_plain_text}

-- a byte of a plain text: one that stands for itself, or one of an escape
abbrev pub is_plain_byte : ℕ → Bool
is_plain_byte b = is_kept b || b == 37

abbrev pub IsPlainByte : ℕ → Type 0
IsPlainByte b = is_plain_byte b ≡ true

pub ascii_from_kept : (b : ℕ) → is_kept b ≡ true → b < 128
ascii_from_kept b kept = grind (arith, nat_tests)

pub plain_from_kept : (b : ℕ) → is_kept b ≡ true → IsPlainByte b
plain_from_kept b kept = rw kept refl

pub kept_not_percent : (b : ℕ) → is_kept b ≡ true → b ≢ 37
kept_not_percent b kept = grind (arith, nat_tests)

plain_digit : (b : ℕ) → digit_value b < 16 → IsPlainByte b
plain_digit b digit = grind (arith, nat_tests)

pub plain_below : (b : ℕ) → IsPlainByte b → b < 128
plain_below b plain = grind (arith, nat_tests)

-- the path percent-encode set has none of these bytes
pub plain_is_kept : (b : ℕ) → IsPlainByte b → IsKept PATH b
plain_is_kept b plain = kept_from_passes is_plain_byte PATH refl b (plain_below b plain) plain

-- what an escape consists of
pub record IsEscape (b high low : ℕ) : Type 0 where
  pub percent : b ≡ 37
  pub first : digit_value high < 16
  pub second : digit_value low < 16

pub escape_parts : (b high low : ℕ) → is_escape b high low ≡ true → IsEscape b high low
escape_parts b high low escape = record { percent = grind (arith, nat_tests); first = grind (arith, nat_tests); second = grind (arith, nat_tests) }

-- each byte of a plain text is a plain byte
pub All-plain : (text : List ℕ) → is_plain_text text ≡ true → All IsPlainByte text
All-plain [] plain = All-nil IsPlainByte
All-plain (b ∷ []) plain = All-cons IsPlainByte b [] (plain_from_kept b plain) (All-nil IsPlainByte)
All-plain (b ∷ c ∷ []) plain =
    let both = and_parts _ _ plain in
    All-cons IsPlainByte b (c ∷ []) (plain_from_kept b both.0) (All-cons IsPlainByte c [] (plain_from_kept c both.1) (All-nil IsPlainByte))
All-plain (b ∷ high ∷ low ∷ rest) plain =
    ⊎_elim
    (λ escape.
    let parts = escape_parts b high low escape in
    let after = All-plain rest (rw escape at plain) in
    All-cons IsPlainByte b (high ∷ low ∷ rest) (rw parts.percent refl) (All-cons IsPlainByte high (low ∷ rest) (plain_digit high parts.first)
    (All-cons IsPlainByte low rest (plain_digit low parts.second) after)))
    (λ none.
    let both = and_parts (is_kept b) (is_plain_text (high ∷ low ∷ rest)) (rw none at plain) in
    All-cons IsPlainByte b (high ∷ low ∷ rest) (plain_from_kept b both.0) (All-plain (high ∷ low ∷ rest) both.1))
    (cases_Bool (is_escape b high low))

-- a text goes on after a byte that stands for itself
pub is_plain_text-kept : (b : ℕ) (rest : List ℕ) → is_kept b ≡ true → is_plain_text (b ∷ rest) ≡ is_plain_text rest
is_plain_text-kept b [] kept = kept
is_plain_text-kept b (c ∷ []) kept = rw kept refl
is_plain_text-kept b (high ∷ low ∷ rest) kept =
    let none : is_escape b high low ≡ false = let other = kept_not_percent b kept in grind (arith, nat_tests) in
    cond-false _ _ _ none ∙ rw kept refl

-- a text goes on after an escape
pub is_plain_text-escape : (b high low : ℕ) (rest : List ℕ) → is_escape b high low ≡ true → is_plain_text (b ∷ high ∷ low ∷ rest) ≡ is_plain_text rest
is_plain_text-escape b high low rest escape = cond-true _ _ _ escape

-- ---- the first byte

escape_value : (high low byte : ℕ) (rest : List ℕ) → is_escape 37 high low ≡ true → byte ≡ 16 * digit_value high + digit_value low
    → percent_decode (37 ∷ high ∷ low ∷ rest) ≡ byte ∷ percent_decode rest
escape_value high low byte rest escape value =
    let parts = escape_parts 37 high low escape in
    percent_decode_escape 37 high low rest refl parts.first parts.second ∙ ap (λ b. b ∷ percent_decode rest) (sym value)

pub BeginsWith-escape : (text : List ℕ) (byte : ℕ) → 3 ≤ length text → get_or text 0 0 ≡ 37 → is_escape 37 (get_or text 1 0) (get_or text 2 0) ≡ true
    → byte ≡ 16 * digit_value (get_or text 1 0) + digit_value (get_or text 2 0) → BeginsWith text byte (drop 3 text)
BeginsWith-escape [] byte long percent escape value = absurd (omega arith)
BeginsWith-escape (b ∷ []) byte long percent escape value = absurd (omega arith)
BeginsWith-escape (b ∷ c ∷ []) byte long percent escape value = absurd (omega arith)
BeginsWith-escape (b ∷ high ∷ low ∷ rest) byte long percent escape value =
    subst (λ x. BeginsWith (x ∷ high ∷ low ∷ rest) byte rest) (sym percent)
    (record { decoded = escape_value high low byte rest escape value; plain = is_plain_text-escape 37 high low rest escape; shorter = omega arith })

pub BeginsWith-kept : (text : List ℕ) → is_kept (get_or text 0 0) ≡ true → BeginsWith text (get_or text 0 0) (drop 1 text)
BeginsWith-kept [] kept = cc
BeginsWith-kept (b ∷ rest) kept =
    record { decoded = percent_decode_not_percent b rest (kept_not_percent b kept); plain = is_plain_text-kept b rest kept; shorter = omega arith }
