-- What is written between quotes for a text is read as that text.
use Rattle.std.proofs.Common.{◌≡◌, ℕ, ◌+◌, get_or, take, ◌<◌, ◌≤◌, ◌⊎◌, ◌==◌, ◌&&◌, ◌||◌, Bool, true, false, List, [], ◌∷◌, ◌++◌}
use Rattle.std.proofs.Common.{Option, Some, None, refl, sym, ap, ◌∙◌, subst, arith, append_assoc, inl, inr}
use Rattle.std.specs.Prelude.{option_to_list, is_some, nat_lt, length, encode_utf8_all}
use Rattle.std.specs.List.{flat_map}
use Rattle.std.specs.Char.{encode_utf8}
use Rattle.std.specs.Fmt.{digits}
use Rattle.std.specs.Str.{bytes_eq}
use Rattle.std.proofs.lemmas.Bool.{cases_Bool, and_parts, agree_below, agree_below_at, false≢true}
use Rattle.std.proofs.lemmas.Bool.Decides.{nat_tests}
use Rattle.std.proofs.lemmas.List.{flat_map_more, length-append, take_more}
use Rattle.std.proofs.lemmas.List.Concat.{flat_map-append}
use Rattle.paged.specs.Pages.{flat}
use Rattle.paged.proofs.FlatLemmas.{flat-append}
use Rattle.std.proofs.lemmas.Slice.Eq.{bytes_eq-Decides}
use Rattle.std.proofs.lemmas.Str.{encodes-append}
use Rattle.replay_script.specs.Quotes.{gives, step_between, step_at, place_after, given_by, is_between}
use Rattle.replay_script.specs.Texts.{is_plain, escaped, escape_of, short_letter}
use Rattle.replay_script.specs.declared.escapes.Place.{Place}
use Rattle.replay_script.specs.declared.escapes.Step.{Step}
use Rattle.replay_script.specs.declared.escapes.Place.TheVariants.{Between, Escape, Unicode, Digits, Wrong}

pub append-nil : (xs : List ℕ) → xs ++ [] ≡ xs
append-nil [] = refl
append-nil (x ∷ xs) = ap (λ t. x ∷ t) (append-nil xs)

pub cases_lt : (a b : ℕ) → (a < b) ⊎ (b ≤ a)
cases_lt a b = elim (cases_Bool (nat_lt a b)) [ inl holds ↦ inl (grind (arith, nat_tests)) | inr fails ↦ inr (grind (arith, nat_tests)) ]

pub place_after-append : (place : Place) (xs ys : List ℕ) → place_after place (xs ++ ys) ≡ place_after (place_after place xs) ys
place_after-append place [] ys = refl
place_after-append place (x ∷ xs) ys = place_after-append (step_at place x).place xs ys

pub given_by-append : (place : Place) (xs ys : List ℕ) → given_by place (xs ++ ys) ≡ given_by place xs ++ given_by (place_after place xs) ys
given_by-append place [] ys = refl
given_by-append place (x ∷ xs) ys =
    let given = option_to_list (step_at place x).given in
    ap (λ t. given ++ t) (given_by-append (step_at place x).place xs ys)
    ∙ sym (append_assoc given (given_by (step_at place x).place xs) (given_by (place_after (step_at place x).place xs) ys))

-- the reading of one character as it is written ends between characters, and gives that character
pub record IsReadAs (characters text : List ℕ) : Type 0 where
  pub place : place_after Between characters ≡ Between
  pub given : given_by Between characters ≡ text

pub between_is : (place : Place) → is_between place ≡ true → place ≡ Between
between_is Between holds = refl
between_is Escape holds = absurd (false≢true holds)
between_is Unicode holds = absurd (false≢true holds)
between_is (Digits count value) holds = absurd (false≢true holds)
between_is Wrong holds = absurd (false≢true holds)

-- a character of ASCII that may not stand for itself is read back from its escape
abbrev reads_back : ℕ → Bool
reads_back c = is_plain c || (is_between (place_after Between (escaped c)) && bytes_eq (given_by Between (escaped c)) (c ∷ []))

all_read_back : agree_below reads_back (λ _. true) 128 ≡ true
unfolding digits
all_read_back = refl

second : (a b : Bool) → (a || b) ≡ true → a ≡ false → b ≡ true
second true b either fails = absurd (false≢true (sym fails))
second false b either fails = either

-- a character that may not stand for itself is one of ASCII
pub not_plain_small : (c : ℕ) → is_plain c ≡ false → c < 128
not_plain_small c fails = grind (arith, nat_tests)

plain_step : (c : ℕ) → is_plain c ≡ true → (c == 92) ≡ false
plain_step c holds = grind (arith, nat_tests)

pub escaped-plain : (c : ℕ) → is_plain c ≡ true → escaped c ≡ c ∷ []
escaped-plain c holds = rw holds refl

pub plain_reads : (c : ℕ) → is_plain c ≡ true → IsReadAs (c ∷ []) (c ∷ [])
plain_reads c holds =
    let other = plain_step c holds in
    let step : step_between c ≡ gives c = rw (holds, other) refl in
    record { place = ap (λ s. s.place) step; given = ap (λ s. option_to_list s.given ++ []) step }

pub escaped_reads : (c : ℕ) → IsReadAs (escaped c) (c ∷ [])
escaped_reads c =
    elim (cases_Bool (is_plain c)) [
      | inl holds ↦ subst (λ cs. IsReadAs cs (c ∷ [])) (sym (escaped-plain c holds)) (plain_reads c holds)
      | inr fails ↦
          let parts = and_parts _ _ (second _ _ (agree_below_at reads_back (λ _. true) 128 c all_read_back (not_plain_small c fails)) fails) in
          record { place = between_is _ parts.0; given = (bytes_eq-Decides _ _).0 parts.1 }
    ]

-- one character more: the place, and what is given by then
pub record IsStep (characters : List ℕ) (c : ℕ) (step : Step) : Type 0 where
  pub place : step.place ≡ place_after Between (characters ++ c ∷ [])
  pub given : given_by Between (characters ++ c ∷ []) ≡ given_by Between characters ++ option_to_list step.given

pub one_more : (characters : List ℕ) (place : Place) (c : ℕ) (step : Step) → place ≡ place_after Between characters → step ≡ step_at place c → IsStep characters c step
one_more characters place c step here is =
    let is_so : step ≡ step_at (place_after Between characters) c = is ∙ ap (λ p. step_at p c) here in
    record {
      place = ap (λ s. s.place) is_so ∙ sym (place_after-append Between characters (c ∷ []));
      given =
          given_by-append Between characters (c ∷ [])
          ∙ ap (λ t. given_by Between characters ++ t) (append-nil (option_to_list (step_at (place_after Between characters) c).given) ∙ ap (λ s. option_to_list s.given) (sym is_so));
    }

pub some_length : (o : Option ℕ) → is_some o ≡ true → length (option_to_list o) ≡ 1
some_length None test = absurd (false≢true test)
some_length (Some c) test = refl

pub none_length : (o : Option ℕ) → is_some o ≡ false → length (option_to_list o) ≡ 0
none_length None test = refl
none_length (Some c) test = absurd (false≢true (sym test))

-- what is given by some characters is given first by those with more behind them
pub given_first : (characters more : List ℕ) → length (encode_utf8_all (given_by Between characters)) ≤ length (encode_utf8_all (given_by Between (characters ++ more)))
given_first characters more =
    let whole = given_by-append Between characters more in
    let bytes = ap encode_utf8_all whole ∙ encodes-append (given_by Between characters) (given_by (place_after Between characters) more) in
    omega (arith, ap length bytes, length-append (encode_utf8_all (given_by Between characters)) (encode_utf8_all (given_by (place_after Between characters) more)))

-- the escape of a character is ASCII, so it is its own UTF-8
abbrev is_its_own : ℕ → Bool
is_its_own c = is_plain c || bytes_eq (encode_utf8_all (escaped c)) (escaped c)

all_their_own : agree_below is_its_own (λ _. true) 128 ≡ true
unfolding digits encode_utf8
all_their_own = refl

pub encodes-escape : (c : ℕ) → is_plain c ≡ false → encode_utf8_all (escaped c) ≡ escape_of c (short_letter c)
encodes-escape c fails =
    let same = second _ _ (agree_below_at is_its_own (λ _. true) 128 c all_their_own (not_plain_small c fails)) fails in
    (bytes_eq-Decides (encode_utf8_all (escaped c)) (escaped c)).0 same ∙ rw fails refl

-- one character more, as it is written
pub written_more : (text : List ℕ) (c : ℕ) → encode_utf8_all (flat_map escaped (text ++ c ∷ [])) ≡ encode_utf8_all (flat_map escaped text) ++ encode_utf8_all (escaped c)
written_more text c = ap encode_utf8_all (sym (flat_map_more escaped [] text c)) ∙ encodes-append (flat_map escaped text) (escaped c)

-- a run of characters more
abbrev pub as_written : List ℕ → List ℕ
as_written text = encode_utf8_all (flat_map escaped text)

run_after : (text run : List ℕ) → as_written (text ++ run) ≡ as_written text ++ as_written run
run_after text run = ap encode_utf8_all (flat_map-append escaped text run) ∙ encodes-append (flat_map escaped text) (flat_map escaped run)

pub run_written : (run bytes before : List ℕ) (i ch : ℕ) → i < length run → ch ≡ get_or run i ch → bytes ≡ before ++ as_written (take i run)
    → bytes ++ encode_utf8_all (escaped ch) ≡ before ++ as_written (take (i + 1) run)
run_written run bytes before i ch within is so_far =
    ap (λ t. t ++ encode_utf8_all (escaped ch)) so_far
    ∙ append_assoc before (as_written (take i run)) (encode_utf8_all (escaped ch))
    ∙ ap (λ t. before ++ t) (sym (written_more (take i run) ch) ∙ ap (λ c. as_written (take i run ++ c ∷ [])) is ∙ ap as_written (sym (take_more run i ch within)))

-- a page more
pub page_written : (pages : List (List ℕ)) (bytes before page : List ℕ) (i : ℕ) → i < length pages → page ≡ get_or pages i page → bytes ≡ before ++ as_written (flat (take i pages))
    → bytes ++ as_written page ≡ before ++ as_written (flat (take (i + 1) pages))
page_written pages bytes before page i within is so_far =
    let front = flat (take i pages) in
    let whole : flat (take (i + 1) pages) ≡ front ++ page =
    ap flat (take_more pages i page within ∙ ap (λ p. take i pages ++ p ∷ []) (sym is)) ∙ flat-append (take i pages) (page ∷ []) ∙ ap (λ l. front ++ l) (append-nil page) in
    ap (λ t. t ++ as_written page) so_far
    ∙ append_assoc before (as_written front) (as_written page)
    ∙ ap (λ t. before ++ t) (sym (run_after front page) ∙ ap as_written (sym whole))
