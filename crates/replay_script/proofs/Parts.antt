-- What stands between quotes, part by part. The reading ends between two parts exactly where each of them stands for a
-- character, and then it has given these characters.
use Rattle.std.proofs.Common.{◌≡◌, ℕ, zero, suc, ◌+◌, ◌*◌, ◌^◌, ◌<◌, ◌≤◌, ◌⊎◌, ◌==◌, ◌&&◌, ◌||◌, Bool, true, false, List, [], ◌∷◌, ◌++◌, length}
use Rattle.std.proofs.Common.{Option, Some, None, refl, sym, ap, ap₂, ◌∙◌, subst, arith, append_assoc, add-one, inl, inr, eqb-true, codes}
use Rattle.std.specs.Prelude.{option_to_list, nat_lt, not}
use Rattle.std.specs.Char.{digit_value, IsScalar}
use Rattle.std.specs.List.{AllZip, concat, list_all}
use Rattle.std.specs.Str.Parse.{digits_value, digits_value_after}
use Rattle.std.specs.Str.{all_scalars}
use Rattle.std.proofs.Math.Nat.{pow-suc}
use Rattle.std.proofs.lemmas.Bool.{cases_Bool, and_parts, false≢true, agree_below, agree_below_at}
use Rattle.std.proofs.lemmas.Bool.Decides.{nat_tests}
use Rattle.std.proofs.lemmas.List.{length_push}
use Rattle.std.proofs.lemmas.List.Folds.{list_all-append}
use Rattle.replay_script.specs.Characters.{is_lower_hex}
use Rattle.replay_script.specs.Quotes.{goes_to, gives, gives_if_some, is_scalar, scalar_of, short_escape, step_at, step_digits, place_after, given_by}
use Rattle.replay_script.specs.Texts.{is_plain, short_letter, escaped, IsCode, StandsFor, Itself, Short, Code}
use Rattle.replay_script.specs.declared.escapes.Place.{Place}
use Rattle.replay_script.specs.declared.escapes.Step.{Step}
use Rattle.replay_script.specs.declared.escapes.Place.TheVariants.{Between, Escape, Unicode, Digits, Wrong}
use Rattle.replay_script.proofs.EscapeLemmas.{IsReadAs, plain_reads, escaped_reads, place_after-append, given_by-append, append-nil}

-- a character with a short escape is none that stands for itself, and is written so
pub short_not_plain : (c letter : ℕ) → short_letter c ≡ Some letter → is_plain c ≡ false
short_not_plain c letter short =
    elim (cases_Bool (is_plain c)) [
      | inr fails ↦ fails
      | inl plain ↦
          let no_quote : (c == 34) ≡ false = grind (arith, nat_tests) in
          let no_backslash : (c == 92) ≡ false = grind (arith, nat_tests) in
          let no_line_feed : (c == 10) ≡ false = grind (arith, nat_tests) in
          let no_return : (c == 13) ≡ false = grind (arith, nat_tests) in
          let no_tab : (c == 9) ≡ false = grind (arith, nat_tests) in
          let none : short_letter c ≡ None = rw (no_quote, no_backslash, no_line_feed, no_return, no_tab) refl in
          cc
    ]

pub short_written : (c letter : ℕ) → short_letter c ≡ Some letter → escaped c ≡ 92 ∷ letter ∷ []
short_written c letter short = rw (short_not_plain c letter short, short) refl

-- digits of hexadecimal in lower case are ASCII, have a value below 16, and are no brace
abbrev is_digit_so : ℕ → Bool
is_digit_so c = not (is_lower_hex c) || (nat_lt (digit_value c) 16 && not (c == 125))

all_digits_so : agree_below is_digit_so (λ _. true) 128 ≡ true
all_digits_so = refl

pub hex_is_ascii : (c : ℕ) → is_lower_hex c ≡ true → c < 128
hex_is_ascii c lower = grind (arith, nat_tests)

pub record IsDigit (c : ℕ) : Type 0 where
  pub small : digit_value c < 16
  pub no_brace : (c == 125) ≡ false

not_is : (b : Bool) → not b ≡ true → b ≡ false
not_is false holds = refl
not_is true holds = absurd (false≢true holds)

pub second_holds : (a b : Bool) → (not a || b) ≡ true → a ≡ true → b ≡ true
second_holds true b either holds = either
second_holds false b either holds = absurd (false≢true holds)

pub hex_digit : (c : ℕ) → is_lower_hex c ≡ true → IsDigit c
hex_digit c lower =
    let so : is_digit_so c ≡ true = agree_below_at is_digit_so (λ _. true) 128 c all_digits_so (hex_is_ascii c lower) in
    let both = and_parts (nat_lt (digit_value c) 16) (not (c == 125)) (second_holds (is_lower_hex c) (nat_lt (digit_value c) 16 && not (c == 125)) so lower) in
    let small : digit_value c < 16 = grind (arith, nat_tests, both.0) in
    record { small = small; no_brace = not_is (c == 125) both.1 }

-- behind so many digits of this value, further ones
record RunsDigits (count value : ℕ) (code : List ℕ) : Type 0 where
  place : place_after (Digits count value) code ≡ Digits (count + length code) (digits_value_after 16 value code)
  given : given_by (Digits count value) code ≡ []

five_digits : (count value : ℕ) → count < 6 → value < 16 ^ count → value < 1048576
five_digits zero value few small = omega (arith, small)
five_digits (suc zero) value few small = omega (arith, small)
five_digits (suc (suc zero)) value few small = omega (arith, small)
five_digits (suc (suc (suc zero))) value few small = omega (arith, small)
five_digits (suc (suc (suc (suc zero)))) value few small = omega (arith, small)
five_digits (suc (suc (suc (suc (suc zero))))) value few small = omega (arith, small)
five_digits (suc (suc (suc (suc (suc (suc count)))))) value few small = absurd (omega (arith, few))

one_digit_more : (count value digit : ℕ) → value < 16 ^ count → digit < 16 → 16 * value + digit < 16 ^ (count + 1)
one_digit_more count value digit small low =
    let power : 16 ^ (count + 1) ≡ 16 ^ count * 16 = rw add-one (pow-suc 16 count) in
    omega (arith, power)

digit_step : (count value c : ℕ) → is_lower_hex c ≡ true → count < 6 → value < 1048576
    → step_digits count value c ≡ goes_to (Digits (count + 1) (16 * value + digit_value c))
digit_step count value c lower few small =
    let no_brace = (hex_digit c lower).no_brace in
    let few_so : nat_lt count 6 ≡ true = grind (arith, nat_tests) in
    let small_so : nat_lt value 1048576 ≡ true = grind (arith, nat_tests) in
    rw (lower, no_brace, few_so, small_so) refl

digits_run : (code : List ℕ) (count value : ℕ) → list_all is_lower_hex code ≡ true → count + length code ≤ 6 → value < 16 ^ count → RunsDigits count value code
digits_run [] count value lower few small =
    let same : count ≡ count + 0 = omega arith in
    record { place = ap (λ n. Digits n value) same; given = refl }
digits_run (c ∷ code) count value lower few small =
    let parts = and_parts (is_lower_hex c) (list_all is_lower_hex code) lower in
    let room : count < 6 = omega arith in
    let step = digit_step count value c parts.0 room (five_digits count value room small) in
    let next = 16 * value + digit_value c in
    let rest = digits_run code (count + 1) next parts.1 (omega arith) (one_digit_more count value (digit_value c) small (hex_digit c parts.0).small) in
    let counted : count + 1 + length code ≡ count + suc (length code) = omega arith in
    let valued : next ≡ value * 16 + digit_value c = omega arith in
    record {
      place =
          ap (λ s. place_after s.place code) step ∙ rest.place
          ∙ ap (λ n. Digits n (digits_value_after 16 next code)) counted
          ∙ ap (λ v. Digits (count + suc (length code)) (digits_value_after 16 v code)) valued;
      given = ap (λ s. option_to_list s.given ++ given_by s.place code) step ∙ rest.given;
    }

code_scalar : (code : List ℕ) (c : ℕ) → IsCode code c → scalar_of (length code) (digits_value 16 code) ≡ Some c
code_scalar code c is =
    let some : nat_lt 0 (length code) ≡ true = grind (arith, nat_tests, is.some) in
    rw (is.value, some, is.scalar) refl

code_reads : (code : List ℕ) (c : ℕ) → IsCode code c → IsReadAs (codes "\\u{" ++ code ++ codes "}") (c ∷ [])
code_reads code c is =
    let run = digits_run code 0 0 is.lower (omega (arith, is.few)) (omega arith) in
    let counted : 0 + length code ≡ length code = omega arith in
    let there : place_after (Digits 0 0) code ≡ Digits (length code) (digits_value 16 code) = run.place ∙ ap (λ n. Digits n (digits_value 16 code)) counted in
    let given = ap (λ o. gives_if_some o) (code_scalar code c is) in
    record {
      place =
          place_after-append (Digits 0 0) code (125 ∷ [])
          ∙ ap (λ p. place_after p (125 ∷ [])) there
          ∙ ap (λ s. s.place) given;
      given =
          given_by-append (Digits 0 0) code (125 ∷ [])
          ∙ ap (λ t. t ++ given_by (place_after (Digits 0 0) code) (125 ∷ [])) run.given
          ∙ ap (λ p. given_by p (125 ∷ [])) there
          ∙ ap (λ s. option_to_list s.given ++ []) given;
    }

-- what stands for a character is read as it
pub part_reads : (part : List ℕ) (c : ℕ) → StandsFor part c → IsReadAs part (c ∷ [])
part_reads part c (Itself is plain scalar) = subst (λ p. IsReadAs p (c ∷ [])) (sym is) (plain_reads c plain)
part_reads part c (Short letter is short) = subst (λ p. IsReadAs p (c ∷ [])) (short_written c letter short ∙ sym is) (escaped_reads c)
part_reads part c (Code code is spells) = subst (λ p. IsReadAs p (c ∷ [])) (sym is) (code_reads code c spells)

-- so are parts one behind the other
pub parts_read : (parts : List (List ℕ)) (text : List ℕ) → AllZip StandsFor parts text → IsReadAs (concat parts) text
parts_read [] [] spells = record { place = refl; given = refl }
parts_read [] (c ∷ text) spells = absurd spells
parts_read (part ∷ parts) [] spells = absurd spells
parts_read (part ∷ parts) (c ∷ text) spells =
    let one = part_reads part c spells.0 in
    let rest = parts_read parts text spells.1 in
    record {
      place = place_after-append Between part (concat parts) ∙ ap (λ p. place_after p (concat parts)) one.place ∙ rest.place;
      given =
          given_by-append Between part (concat parts)
          ∙ ap (λ p. given_by Between part ++ given_by p (concat parts)) one.place
          ∙ ap (λ t. t ++ given_by Between (concat parts)) one.given
          ∙ ap (λ t. c ∷ t) rest.given;
    }

-- what a reading has behind the last whole part, where it stands at a place
record IsBegun (count value : ℕ) (front : List ℕ) : Type 0 where
  code : List ℕ
  is : front ≡ codes "\\u{" ++ code
  many : length code ≡ count
  few : count ≤ 6
  lower : list_all is_lower_hex code ≡ true
  value_is : digits_value 16 code ≡ value

abbrev Stands : Place → List ℕ → Type 0
Stands Between front = front ≡ []
Stands Escape front = front ≡ 92 ∷ []
Stands Unicode front = front ≡ 92 ∷ 117 ∷ []
Stands (Digits count value) front = IsBegun count value front
Stands Wrong front = Unit {0}

-- one character more: the part goes on, or ends
data Outcome (front : List ℕ) (step : Step) : Type 0 where
  Goes : step.given ≡ None → Stands step.place front → Outcome front step
  Gives : (c : ℕ) → step ≡ gives c → StandsFor front c → Outcome front step

goes_on : (front : List ℕ) (place : Place) (step : Step) → step ≡ goes_to place → Stands place front → Outcome front step
goes_on front place step is stands = Goes (ap (λ s. s.given) is) (subst (λ s. Stands s.place front) (sym is) stands)

option_cases : (o : Option ℕ) → (o ≡ None) ⊎ ((c : ℕ) × (o ≡ Some c))
option_cases None = inl refl
option_cases (Some c) = inr (c, refl)

-- the letter of an escape is the letter that its character is written with
letter_back : (letter c : ℕ) → short_escape letter ≡ Some c → short_letter c ≡ Some letter
letter_back letter c escape =
    elim (cases_Bool (letter == 34 || letter == 92)) [
      | inl itself ↦
          let same : letter ≡ c = let found = rw itself at escape in cc in
          let again : (c == 34 || c == 92) ≡ true = subst (λ n. (n == 34 || n == 92) ≡ true) same itself in
          rw again (ap Some (sym same))
      | inr other ↦
          elim (cases_Bool (letter == 110)) [
            | inl n ↦
                let same : 10 ≡ c = let found = rw (other, n) at escape in cc in
                subst (λ d. short_letter d ≡ Some letter) same (ap Some (sym (eqb-true letter 110 n)))
            | inr no_n ↦
                elim (cases_Bool (letter == 114)) [
                  | inl r ↦
                      let same : 13 ≡ c = let found = rw (other, no_n, r) at escape in cc in
                      subst (λ d. short_letter d ≡ Some letter) same (ap Some (sym (eqb-true letter 114 r)))
                  | inr no_r ↦
                      elim (cases_Bool (letter == 116)) [
                        | inl t ↦
                            let same : 9 ≡ c = let found = rw (other, no_n, no_r, t) at escape in cc in
                            subst (λ d. short_letter d ≡ Some letter) same (ap Some (sym (eqb-true letter 116 t)))
                        | inr no_t ↦ let found = rw (other, no_n, no_r, no_t) at escape in cc
                      ]
                ]
          ]
    ]

at_between : (front : List ℕ) (c : ℕ) → front ≡ [] → IsScalar c → Outcome (front ++ c ∷ []) (step_at Between c)
at_between front c stands scalar =
    let whole = ap (λ f. f ++ c ∷ []) stands in
    elim (cases_Bool (c == 92)) [
      | inl backslash ↦ goes_on _ Escape _ (rw backslash refl) (whole ∙ ap (λ b. b ∷ []) (eqb-true c 92 backslash))
      | inr other ↦
          elim (cases_Bool (is_plain c)) [
            | inl plain ↦ Gives c (rw (plain, other) refl) (Itself whole plain scalar)
            | inr fails ↦ goes_on _ Wrong _ (rw (fails, other) refl) tt
          ]
    ]

at_escape : (front : List ℕ) (c : ℕ) → front ≡ 92 ∷ [] → Outcome (front ++ c ∷ []) (step_at Escape c)
at_escape front c stands =
    let whole = ap (λ f. f ++ c ∷ []) stands in
    elim (cases_Bool (c == 117)) [
      | inl u ↦ goes_on _ Unicode _ (rw u refl) (whole ∙ ap (λ b. 92 ∷ b ∷ []) (eqb-true c 117 u))
      | inr other ↦
          elim (option_cases (short_escape c)) [
            | inl none ↦ goes_on _ Wrong _ (rw (none, other) refl) tt
            | inr given ↦ Gives given.0 (rw (given.1, other) refl) (Short c whole (letter_back c given.0 given.1))
          ]
    ]

at_unicode : (front : List ℕ) (c : ℕ) → front ≡ 92 ∷ 117 ∷ [] → Outcome (front ++ c ∷ []) (step_at Unicode c)
at_unicode front c stands =
    let whole = ap (λ f. f ++ c ∷ []) stands in
    elim (cases_Bool (c == 123)) [
      | inl brace ↦
          let is = whole ∙ ap (λ b. 92 ∷ 117 ∷ b ∷ []) (eqb-true c 123 brace) in
          let begun : IsBegun 0 0 (front ++ c ∷ []) = record { code = []; is = is; many = refl; few = omega arith; lower = refl; value_is = refl } in
          goes_on _ (Digits 0 0) _ (rw brace refl) begun
      | inr other ↦ goes_on _ Wrong _ (rw other refl) tt
    ]

value_after-append : (n : ℕ) (ds es : List ℕ) → digits_value_after 16 n (ds ++ es) ≡ digits_value_after 16 (digits_value_after 16 n ds) es
value_after-append n [] es = refl
value_after-append n (d ∷ ds) es = value_after-append (n * 16 + digit_value d) ds es

-- one digit more
digit_begun : (count value : ℕ) (front : List ℕ) (c : ℕ) → IsBegun count value front → is_lower_hex c ≡ true → count < 6 → IsBegun (count + 1) (16 * value + digit_value c) (front ++ c ∷ [])
digit_begun count value front c begun lower room =
    let code = begun.code in
    let valued : value * 16 + digit_value c ≡ 16 * value + digit_value c = omega arith in
    record {
      code = code ++ c ∷ [];
      is = ap (λ f. f ++ c ∷ []) begun.is ∙ append_assoc (codes "\\u{") code (c ∷ []);
      many = length_push code c ∙ ap (λ n. n + 1) begun.many;
      few = omega arith;
      lower = list_all-append is_lower_hex code (c ∷ []) ∙ rw (begun.lower, lower) refl;
      value_is = value_after-append 0 code (c ∷ []) ∙ ap (λ v. v * 16 + digit_value c) begun.value_is ∙ valued;
    }

-- the digits end, and spell a scalar value
code_ended : (count value : ℕ) (front : List ℕ) (c : ℕ) (begun : IsBegun count value front) → scalar_of count value ≡ Some c → IsCode begun.code c
code_ended count value front c begun given =
    elim (cases_Bool (nat_lt 0 count && is_scalar value)) [
      | inr fails ↦ let none = rw fails at given in cc
      | inl holds ↦
          let parts = and_parts (nat_lt 0 count) (is_scalar value) holds in
          let same : value ≡ c = let found = rw holds at given in cc in
          let some : 0 < count = grind (arith, nat_tests, parts.0) in
          record {
            some = omega (arith, begun.many);
            few = omega (arith, begun.many, begun.few);
            lower = begun.lower;
            value = begun.value_is ∙ same;
            scalar = subst (λ v. is_scalar v ≡ true) same parts.1;
          }
    ]

at_digits : (count value : ℕ) (front : List ℕ) (c : ℕ) → IsBegun count value front → Outcome (front ++ c ∷ []) (step_at (Digits count value) c)
at_digits count value front c begun =
    elim (cases_Bool (c == 125)) [
      | inl brace ↦
          elim (option_cases (scalar_of count value)) [
            | inl none ↦ goes_on _ Wrong _ (rw (brace, none) refl) tt
            | inr given ↦
                let whole : front ++ c ∷ [] ≡ codes "\\u{" ++ begun.code ++ codes "}" = ap₂ (λ f b. f ++ b ∷ []) begun.is (eqb-true c 125 brace) in
                Gives given.0 (rw (brace, given.1) refl) (Code begun.code whole (code_ended count value front given.0 begun given.1))
          ]
      | inr other ↦
          elim (cases_Bool (is_lower_hex c && nat_lt count 6 && nat_lt value 1048576)) [
            | inr fails ↦ goes_on _ Wrong _ (rw (other, fails) refl) tt
            | inl holds ↦
                let digit = and_parts (is_lower_hex c && nat_lt count 6) (nat_lt value 1048576) holds in
                let lower = and_parts (is_lower_hex c) (nat_lt count 6) digit.0 in
                let room : count < 6 = grind (arith, nat_tests, lower.1) in
                goes_on _ (Digits (count + 1) (16 * value + digit_value c)) _ (rw (other, holds) refl) (digit_begun count value front c begun lower.0 room)
          ]
    ]

outcome : (place : Place) (front : List ℕ) (c : ℕ) → Stands place front → IsScalar c → Outcome (front ++ c ∷ []) (step_at place c)
outcome Between front c stands scalar = at_between front c stands scalar
outcome Escape front c stands scalar = at_escape front c stands
outcome Unicode front c stands scalar = at_unicode front c stands
outcome (Digits count value) front c stands scalar = at_digits count value front c stands
outcome Wrong front c stands scalar = goes_on _ Wrong _ refl tt

-- characters in parts, each for a character of a text
pub record AreParts (characters text : List ℕ) : Type 0 where
  pub parts : List (List ℕ)
  pub whole : concat parts ≡ characters
  pub spells : AllZip StandsFor parts text

parts_from : (place : Place) (front characters : List ℕ) → Stands place front → all_scalars characters ≡ true → place_after place characters ≡ Between
    → AreParts (front ++ characters) (given_by place characters)
parts_from place front [] stands scalars ends =
    let none : front ≡ [] = subst (λ p. Stands p front) ends stands in
    record { parts = []; whole = sym (append-nil front ∙ none); spells = tt }
parts_from place front (c ∷ characters) stands scalars ends =
    let scalar = and_parts _ _ scalars in
    let step = step_at place c in
    let regroup : (front ++ c ∷ []) ++ characters ≡ front ++ c ∷ characters = append_assoc front (c ∷ []) characters in
    elim (outcome place front c stands scalar.0) [
      | Goes none further ↦
          let rest = parts_from step.place (front ++ c ∷ []) characters further scalar.1 ends in
          record {
            parts = rest.parts;
            whole = rest.whole ∙ regroup;
            spells = subst (AllZip StandsFor rest.parts) (sym (ap (λ o. option_to_list o ++ given_by step.place characters) none)) rest.spells;
          }
      | Gives d gave part ↦
          let there : place_after Between characters ≡ Between = sym (ap (λ s. place_after s.place characters) gave) ∙ ends in
          let rest = parts_from Between [] characters refl scalar.1 there in
          record {
            parts = (front ++ c ∷ []) ∷ rest.parts;
            whole = ap (λ t. (front ++ c ∷ []) ++ t) rest.whole ∙ regroup;
            spells =
                subst (λ t. AllZip StandsFor ((front ++ c ∷ []) ∷ rest.parts) t) (sym (ap (λ s. option_to_list s.given ++ given_by s.place characters) gave))
                (part, rest.spells);
          }
    ]

-- where the reading of characters ends between two parts, they are in parts for the text that it has given
pub parts_given : (characters : List ℕ) → all_scalars characters ≡ true → place_after Between characters ≡ Between → AreParts characters (given_by Between characters)
parts_given characters scalars ends = parts_from Between [] characters refl scalars ends
