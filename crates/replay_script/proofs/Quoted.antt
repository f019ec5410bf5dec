-- Characters as they are written between quotes: the search for a space passes them, and they are scalar values.
use Rattle.std.proofs.Common.{◌≡◌, ℕ, suc, ◌<◌, ◌≤◌, ◌==◌, ◌&&◌, Bool, true, false, List, [], ◌∷◌, ◌++◌, length, get_or, fold, Option, Some, None, refl, sym, ap, subst, arith, inl, inr}
use Rattle.std.specs.Prelude.{is_none, option_map, encode_utf8_all}
use Rattle.std.specs.Char.{encode_utf8}
use Rattle.std.specs.Fmt.{digits}
use Rattle.std.specs.Str.{all_scalars}
use Rattle.std.proofs.lemmas.Bool.{and_parts, false≢true, agree_below, agree_below_at}
use Rattle.std.proofs.lemmas.Bool.Decides.{nat_tests}
use Rattle.std.proofs.lemmas.Str.{inside_one}
use lib.Utf8.{scalar}
use Rattle.replay_script.specs.Cut.{space_place, quoting_behind}
use Rattle.replay_script.specs.Texts.{is_plain, escaped}
use Rattle.replay_script.specs.declared.cuts.Quoting.{Quoting}
use Rattle.replay_script.specs.declared.cuts.Quoting.TheVariants.{Outside, Inside, Escaped}
use Rattle.replay_script.proofs.EscapeLemmas.{append-nil, cases_lt, escaped-plain}
use Rattle.replay_script.proofs.Spaces.{Passes}

abbrev is_inside : Quoting → Bool
is_inside Inside = true
is_inside _ = false

inside_is : (quoting : Quoting) → is_inside quoting ≡ true → quoting ≡ Inside
inside_is Inside test = refl
inside_is Outside test = absurd (false≢true test)
inside_is Escaped test = absurd (false≢true test)

none_is : (o : Option ℕ) → is_none o ≡ true → o ≡ None
none_is None test = refl
none_is (Some place) test = absurd (false≢true test)

-- a character of ASCII, as it is written, stays inside the quotes, and its characters are scalar values
abbrev stays_inside : ℕ → Bool
stays_inside c =
    let bytes = encode_utf8_all (escaped c) in
    is_none (space_place Inside bytes) && (is_inside (fold quoting_behind Inside bytes) && all_scalars (escaped c))

all_stay_inside : agree_below stays_inside (λ _. true) 128 ≡ true
unfolding digits encode_utf8
all_stay_inside = refl

-- so do bytes above ASCII
high_passes : (bytes : List ℕ) → ((k : ℕ) → k < length bytes → 128 ≤ get_or bytes k 0) → Passes Inside bytes Inside
high_passes [] high = record { no_end = refl; quoting = refl }
high_passes (b ∷ bytes) high =
    let here : 128 ≤ b = high 0 (omega arith) in
    let no_quote : (b == 34) ≡ false = grind (arith, nat_tests) in
    let no_backslash : (b == 92) ≡ false = grind (arith, nat_tests) in
    let rest = high_passes bytes (λ k within. high (suc k) (omega arith)) in
    record {
      no_end = rw (no_quote, no_backslash) (ap (option_map suc) rest.no_end);
      quoting = rw (no_quote, no_backslash) rest.quoting;
    }

high_encoded : (c : ℕ) → 128 ≤ c → (k : ℕ) → k < length (encode_utf8 c) → 128 ≤ get_or (encode_utf8 c) k 0
high_encoded c high k within =
    elim (cases_lt (get_or (encode_utf8 c) k 0) 128) [
      | inl low ↦
          let same = inside_one c [] (encode_utf8 c) k (sym (append-nil (encode_utf8 c))) within low in
          absurd (omega (arith, same, low, high))
      | inr large ↦ large
    ]

high_plain : (c : ℕ) → 128 ≤ c → is_plain c ≡ true
high_plain c high = grind (arith, nat_tests)

pub character_passes : (c : ℕ) → Passes Inside (encode_utf8_all (escaped c)) Inside
character_passes c =
    elim (cases_lt c 128) [
      | inl low ↦
          let parts = and_parts _ _ (agree_below_at stays_inside (λ _. true) 128 c all_stay_inside low) in
          record { no_end = none_is _ parts.0; quoting = inside_is _ (and_parts _ _ parts.1).0 }
      | inr high ↦
          let alone = escaped-plain c (high_plain c high) in
          subst (λ cs. Passes Inside (encode_utf8_all cs) Inside) (sym alone)
          (subst (λ bytes. Passes Inside bytes Inside) (sym (append-nil (encode_utf8 c))) (high_passes (encode_utf8 c) (high_encoded c high)))
    ]

pub character_scalars : (c : ℕ) → scalar c ≡ true → all_scalars (escaped c) ≡ true
character_scalars c is_scalar =
    elim (cases_lt c 128) [
      | inl low ↦ (and_parts _ _ (and_parts _ _ (agree_below_at stays_inside (λ _. true) 128 c all_stay_inside low)).1).1
      | inr high ↦ subst (λ cs. all_scalars cs ≡ true) (sym (escaped-plain c (high_plain c high))) (rw is_scalar refl)
    ]

pub scalars-append : (xs ys : List ℕ) → all_scalars xs ≡ true → all_scalars ys ≡ true → all_scalars (xs ++ ys) ≡ true
scalars-append [] ys first second = second
scalars-append (x ∷ xs) ys first second =
    let parts = and_parts (scalar x) (all_scalars xs) first in
    rw parts.0 (scalars-append xs ys parts.1 second)
