-- What `parse` gives of digits without a sign or a zero in front is the number of the grammar.
use Rattle.std.proofs.Common.{◌≡◌, ℕ, ◌==◌, ◌<◌, ◌^◌, ◌&&◌, ◌||◌, Bool, true, false, List, length, get_or, slice_index, Some}
use Rattle.std.proofs.Common.{None, Result, Ok, Err, nat_lt, refl, sym, ap, ◌∙◌, subst, arith, suc, zero, lit<, inl, inr}
use Rattle.std.proofs.lemmas.Bool.{cases_Bool, and_parts, false≢true}
use Rattle.std.proofs.lemmas.Bool.Decides.{nat_tests}
use Rattle.std.proofs.lemmas.Fmt.{decimal-digits_value, digits_value-decimal, decimal_is_IsNumeral, first_decimal, decimal_digit}
use Rattle.std.proofs.lemmas.Slice.Eq.{bytes_eq-Decides}
use Rattle.std.proofs.lemmas.Str.Parse.{IsNumeralModel}
use Rattle.std.specs.Fmt.{decimal}
use Rattle.std.specs.Result.{result_ok}
use Rattle.std.specs.Str.{bytes_eq}
use Rattle.std.specs.Str.Parse.{AllDigits, IsNumeral, digits_value, without_leading_plus, ParsesUnsigned}
use Rattle.replay_script.specs.Grammar.{IsNumber}
use Rattle.replay_script.specs.Numbers.{number_of}

own : IsNumeralModel (AllDigits 10) (digits_value 10)
own = record { to = λ _ h. h; from = λ _ h. h; same = λ _ _. refl }

abbrev pub is_padded : List ℕ → Bool
is_padded text = slice_index text 0 == 43 || (slice_index text 0 == 48 && nat_lt 1 (length text))

-- the text is the decimal digits of a number in u64
abbrev IsSpelled : List ℕ → Type 0
IsSpelled text = (decimal (digits_value 10 text) ≡ text) × (digits_value 10 text < 2 ^ 64)

number_spelled : (text : List ℕ) → IsSpelled text → number_of text ≡ Some (digits_value 10 text)
number_spelled text h =
    let same : bytes_eq (decimal (digits_value 10 text)) text ≡ true = (bytes_eq-Decides _ _).1 h.0 in
    let small : nat_lt (digits_value 10 text) (2 ^ 64) ≡ true = grind (arith, nat_tests) in
    rw (same, small) refl

number_not_spelled : (text : List ℕ) → (IsSpelled text → ⊥) → number_of text ≡ None
number_not_spelled text h =
    let n = digits_value 10 text in
    elim (cases_Bool (bytes_eq (decimal n) text)) [
      | inr other ↦ rw other refl
      | inl same ↦
          elim (cases_Bool (nat_lt n (2 ^ 64))) [
            | inr large ↦ rw (same, large) refl
            | inl small ↦ absurd (h ((bytes_eq-Decides _ _).0 same, grind (arith, nat_tests)))
          ]
    ]

-- decimal digits have no sign, and no zero in front of others
decimal_plain : (n : ℕ) → n < 2 ^ 64 → is_padded (decimal n) ≡ false
decimal_plain zero small = subst (λ t. is_padded t ≡ false) (sym (decimal_digit 0 (lit< tt))) refl
decimal_plain (suc n) small =
    let above = first_decimal (suc n) (omega arith) small in
    grind (arith, nat_tests)

pub number_padded : (text : List ℕ) → is_padded text ≡ true → number_of text ≡ None
number_padded text padded = number_not_spelled text (λ h. false≢true (sym (subst (λ t. is_padded t ≡ false) h.0 (decimal_plain _ h.1)) ∙ padded))

left_false : (a b : Bool) → (a || b) ≡ false → a ≡ false
left_false false b h = refl
left_false true b h = h

-- without a sign the text itself is parsed
plus_kept : (text : List ℕ) → is_padded text ≡ false → without_leading_plus text ≡ text
plus_kept text plain =
    let unsigned : (slice_index text 0 == 43) ≡ false = left_false _ _ plain in
    rw unsigned refl

zero_alone : (text : List ℕ) → is_padded text ≡ false → 0 < length text → get_or text 0 0 ≡ 48 → length text ≡ 1
zero_alone text plain some begins = grind (arith, nat_tests)

numeral_spelled : (text : List ℕ) → is_padded text ≡ false → IsNumeral 10 text → digits_value 10 text < 2 ^ 64 → IsSpelled text
numeral_spelled text plain numeral small = (decimal-digits_value own text numeral.1 numeral.0 (zero_alone text plain numeral.0) small, small)

spelled_numeral : (text : List ℕ) → IsSpelled text → IsNumeral 10 text
spelled_numeral text h = subst (λ t. IsNumeral 10 t) h.0 (decimal_is_IsNumeral _ h.1).0

pub number_parsed : {E : Type 0} (text : List ℕ) (r : Result ℕ E) → is_padded text ≡ false → ParsesUnsigned 64 10 text r → result_ok r ≡ number_of text
number_parsed text (Ok n) plain parsed =
    let here = subst (λ t. (IsNumeral 10 t × (digits_value 10 t < 2 ^ 64)) × (n ≡ digits_value 10 t)) (plus_kept text plain) parsed in
    ap Some here.1 ∙ sym (number_spelled text (numeral_spelled text plain here.0.0 here.0.1))
number_parsed text (Err e) plain refused =
    let here : (IsNumeral 10 text × (digits_value 10 text < 2 ^ 64)) → ⊥ = subst (λ t. (IsNumeral 10 t × (digits_value 10 t < 2 ^ 64)) → ⊥) (plus_kept text plain) refused in
    sym (number_not_spelled text (λ h. here (spelled_numeral text h, h.1)))

-- a number is read from its decimal digits
pub number_of-decimal : (n : ℕ) → n < 2 ^ 64 → number_of (decimal n) ≡ Some n
number_of-decimal n small =
    let value = digits_value-decimal own n small in
    number_spelled (decimal n) (ap decimal value, subst (λ m. m < 2 ^ 64) (sym value) small) ∙ ap Some value

-- what is read as a number is its decimal digits
pub number_is : (text : List ℕ) (n : ℕ) → number_of text ≡ Some n → IsNumber text n
number_is text n found =
    let value = digits_value 10 text in
    elim (cases_Bool (bytes_eq (decimal value) text && nat_lt value (2 ^ 64))) [
      | inr fails ↦ let none = rw fails at found in cc
      | inl holds ↦
          let parts = and_parts (bytes_eq (decimal value) text) (nat_lt value (2 ^ 64)) holds in
          let same : value ≡ n = let got = rw holds at found in cc in
          let small : value < 2 ^ 64 = grind (arith, nat_tests, parts.1) in
          record {
            digits = sym ((bytes_eq-Decides (decimal value) text).0 parts.0) ∙ ap decimal same;
            small = subst (λ m. m < 2 ^ 64) same small;
          }
    ]
