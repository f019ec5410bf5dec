-- What stands between the first quote and the last, from the places where they are found.
use Rattle.std.proofs.Common.{◌≡◌, ◌≢◌, ℕ, zero, suc, ◌+◌, ◌-◌, ◌<◌, ◌≤◌, true, false, List, [], ◌∷◌, ◌++◌, length, take, drop, get_or}
use Rattle.std.proofs.Common.{Bool, ◌==◌, ◌&&◌, ◌||◌, Option, Some, None, Bor, MatchOption, refl, sym, ap, ap₂, ◌∙◌, subst, arith, lit<, eqb-true, inl, inr}
use Rattle.std.specs.Prelude.{option_map, not}
use Rattle.std.specs.List.{list_any, suffix_len}
use Rattle.std.specs.Str.Pattern.{RFindsChar, SplitsAroundMatch}
use Rattle.std.proofs.lemmas.Bool.{cases_Bool, and_parts, or_right, false≢true}
use Rattle.std.proofs.lemmas.Bool.Decides.{nat_tests}
use Rattle.std.proofs.lemmas.List.{drop_more, get_or-drop, length-drop, take-append-drop}
use Rattle.std.proofs.lemmas.List.Sums.{suffix_len_is}
use Rattle.std.proofs.lemmas.Str.Pattern.{NoCharPasses-char}
use Rattle.replay_script.specs.Quotes.{is_quote, between_quotes}

quote_alone : (b : ℕ) → b ≢ 34 → is_quote b ≡ false
quote_alone b differs = grind (arith, nat_tests)

-- no byte is a quote
none_quoted : (bytes : List ℕ) → ((i : ℕ) → i < length bytes → get_or bytes i 0 ≢ 34) → list_any is_quote bytes ≡ false
none_quoted [] differ = refl
none_quoted (b ∷ bytes) differ =
    rw (quote_alone b (differ 0 (omega arith))) (none_quoted bytes (λ i within. differ (suc i) (omega arith)))

-- the byte at a place is a quote
one_quoted : (bytes : List ℕ) (i : ℕ) → i < length bytes → get_or bytes i 0 ≡ 34 → list_any is_quote bytes ≡ true
one_quoted [] i within quote = absurd (omega (arith, within))
one_quoted (b ∷ bytes) zero within quote = rw quote refl
one_quoted (b ∷ bytes) (suc i) within quote = or_right (is_quote b) (list_any is_quote bytes) (one_quoted bytes i (omega (arith, within)) quote)

-- the last quote stands at `i`, and what is behind it begins at `j`
pub record IsLastQuote (bytes : List ℕ) (i j : ℕ) : Type 0 where
  pub within : i < length bytes
  pub next : j ≡ i + 1
  pub quote : get_or bytes i 0 ≡ 34
  pub last : (k : ℕ) → j ≤ k → k < length bytes → get_or bytes k 0 ≢ 34

behind_last : (bytes : List ℕ) (i j : ℕ) → IsLastQuote bytes i j → suffix_len (λ b. not (is_quote b)) bytes ≡ length bytes - j
behind_last bytes i j is =
    let before : j - 1 ≡ i = omega (arith, is.next) in
    suffix_len_is (λ b. not (is_quote b)) bytes j 0 (omega (arith, is.next, is.within))
    (λ k past within. ap not (quote_alone (get_or bytes k 0) (is.last k past within)))
    (λ some. rw (before, is.quote) refl)

pub quotes_at : (bytes : List ℕ) (i j : ℕ) → IsLastQuote bytes i j → between_quotes (34 ∷ bytes) ≡ Some (take i bytes, drop j bytes)
quotes_at bytes i j is =
    let any = one_quoted bytes i is.within is.quote in
    let behind = behind_last bytes i j is in
    let front : length bytes - suffix_len (λ b. not (is_quote b)) bytes - 1 ≡ i = omega (arith, behind, is.next, is.within) in
    let back : length bytes - suffix_len (λ b. not (is_quote b)) bytes ≡ j = omega (arith, behind, is.next, is.within) in
    rw (any, front, back) refl

pub not_quoted : (argument : List ℕ) → ((rest : List ℕ) → argument ≢ 34 ∷ rest) → between_quotes argument ≡ None
not_quoted [] differs = refl
not_quoted (b ∷ rest) differs = rw (quote_alone b (λ same. differs rest (ap (λ c. c ∷ rest) same))) refl

pub split_quotes : (argument rest : List ℕ) (parts : Option (Bor (List ℕ) × Bor (List ℕ))) → argument ≡ 34 ∷ rest
    → MatchOption parts (RFindsChar 34 rest None) (λ x. SplitsAroundMatch (RFindsChar 34) rest x.0.now x.1.now)
    → option_map (λ x. (x.0.now, x.1.now)) parts ≡ between_quotes argument
split_quotes argument rest None begins none =
    let any = none_quoted rest (λ i within. NoCharPasses-char 34 rest i none (lit< tt) within) in
    let same : between_quotes (34 ∷ rest) ≡ None = rw any refl in
    sym (ap between_quotes begins ∙ same)
split_quotes argument rest (Some parts) begins split =
    let found = split.2 in
    let within : split.0 < length rest = omega (arith, split.5, split.7, found.1.ends) in
    let is : IsLastQuote rest split.0 split.1 = record {
      within = within;
      next = found.1.ends;
      quote = found.1.byte (lit< tt);
      last = λ k past inside.
          let behind = NoCharPasses-char 34 (drop split.1 rest) (k - split.1) found.0 (lit< tt) (omega (arith, length-drop split.1 rest)) in
          let place : split.1 + (k - split.1) ≡ k = omega arith in
          λ quote. behind (get_or-drop split.1 rest (k - split.1) 0 ∙ ap (λ p. get_or rest p 0) place ∙ quote);
    } in
    let same : Some (parts.0.now, parts.1.now) ≡ Some (take split.0 rest, drop split.1 rest) = rw (split.3, split.4) refl in
    same ∙ sym (ap between_quotes begins ∙ quotes_at rest split.0 split.1 is)

-- a list that has a quote has a last one
pub record HasLastQuote (bytes : List ℕ) : Type 0 where
  pub place : ℕ
  pub is : IsLastQuote bytes place (place + 1)

-- places behind one byte more
none_further : (b : ℕ) (bytes : List ℕ) (j : ℕ) → ((k : ℕ) → j ≤ k → k < length bytes → get_or bytes k 0 ≢ 34)
    → (k : ℕ) → suc j ≤ k → k < length (b ∷ bytes) → get_or (b ∷ bytes) k 0 ≢ 34
none_further b bytes j none zero past within = absurd (omega (arith, past))
none_further b bytes j none (suc k) past within = none k (omega (arith, past)) (omega (arith, within))

first_holds : (a b : Bool) → (a || b) ≡ true → b ≡ false → a ≡ true
first_holds true b either fails = refl
first_holds false b either fails = sym fails ∙ either

pub last_quote : (bytes : List ℕ) → list_any is_quote bytes ≡ true → HasLastQuote bytes
last_quote [] any = absurd (false≢true any)
last_quote (b ∷ bytes) any =
    elim (cases_Bool (list_any is_quote bytes)) [
      | inl later ↦
          let rest = last_quote bytes later in
          record {
            place = suc rest.place;
            is = record {
              within = omega (arith, rest.is.within);
              next = refl;
              quote = rest.is.quote;
              last = λ k past within. none_further b bytes (rest.place + 1) rest.is.last k (omega (arith, past)) within;
            };
          }
      | inr none ↦
          record {
            place = 0;
            is = record {
              within = omega arith;
              next = refl;
              quote = eqb-true b 34 (first_holds (is_quote b) (list_any is_quote bytes) any none);
              last = λ k past within. none_further b bytes 0 (λ i above inside quote. false≢true (sym none ∙ one_quoted bytes i inside quote)) k past within;
            };
          }
    ]

-- an argument that begins with a quote and has another is what stands around them
pub quotes_around : (argument : List ℕ) (parts : List ℕ × List ℕ) → between_quotes argument ≡ Some parts → argument ≡ 34 ∷ parts.0 ++ 34 ∷ parts.1
quotes_around [] parts found = cc
quotes_around (b ∷ rest) parts found =
    elim (cases_Bool (b == 34 && list_any is_quote rest)) [
      | inr fails ↦ let none = rw fails at found in cc
      | inl holds ↦
          let both = and_parts (b == 34) (list_any is_quote rest) holds in
          let first : b ≡ 34 = eqb-true b 34 both.0 in
          let last = last_quote rest both.1 in
          let i = last.place in
          let at : between_quotes (34 ∷ rest) ≡ Some (take i rest, drop (i + 1) rest) = quotes_at rest i (i + 1) last.is in
          let here : between_quotes (34 ∷ rest) ≡ Some parts = subst (λ c. between_quotes (c ∷ rest) ≡ Some parts) first found in
          let same : (take i rest, drop (i + 1) rest) ≡ parts = cc in
          let whole : rest ≡ take i rest ++ 34 ∷ drop (i + 1) rest =
          sym (take-append-drop i rest) ∙ ap (λ t. take i rest ++ t) (drop_more rest i 0 last.is.within ∙ ap (λ c. c ∷ drop (i + 1) rest) last.is.quote) in
          ap₂ (λ c t. c ∷ t) first whole ∙ ap (λ p. 34 ∷ p.0 ++ 34 ∷ p.1) same
    ]
