-- A text in quotes: what the reader gives of an argument is what the grammar says of it, both ways; and a text is written as an
-- argument that spells it.
use Rattle.std.proofs.Common.{◌≡◌, ◌≢◌, ℕ, zero, suc, ◌+◌, ◌-◌, ◌*◌, ◌<◌, ◌≤◌, ◌^◌, ◌==◌, ◌&&◌, ◌||◌, Bool, true, false, List, [], ◌∷◌, ◌++◌, length, drop, get_or}
use Rattle.std.proofs.Common.{Option, Some, None, is_some, refl, sym, ap, ap₂, ◌∙◌, subst, arith, inl, inr, eqb-true, codes, map}
use Rattle.std.specs.Prelude.{IsUtf8, option_map, option_and_then, encode_utf8_all, nat_lt, nat_le, if◌then◌else◌}
use Rattle.std.specs.Char.{IsScalar}
use Rattle.std.specs.Fmt.{decimal, digits}
use Rattle.std.specs.List.{AllZip, concat, flat_map, list_all, repeat}
use Rattle.std.specs.Str.{IsAscii, all_scalars, chars}
use Rattle.std.specs.Str.Parse.{digits_value}
use Rattle.std.proofs.lemmas.Bool.{cases_Bool, and_parts, false≢true, agree_below, agree_below_at}
use Rattle.std.proofs.lemmas.Bool.Decides.{nat_tests}
use Rattle.std.proofs.lemmas.Fmt.{decimal_is_IsNumeral}
use Rattle.std.proofs.lemmas.List.{append-nil, get_or-drop, get_or_at, length-append, take_at}
use Rattle.std.proofs.lemmas.List.Folds.{list_all-append}
use Rattle.std.proofs.lemmas.Str.{IsUtf8-take, IsUtf8-drop, IsCharBoundary-after_ascii, IsCharBoundary-before_ascii, chars-encodes, encodes-IsAscii, encodes-append, encodes-chars, scalars-chars}
use Rattle.std.proofs.lemmas.Str.Parse.{digit_at}
use lib.Utf8.{scalar, low_scalar}
use Rattle.replay_script.specs.Characters.{is_lower_hex}
use Rattle.replay_script.specs.Numbers.{number_of}
use Rattle.replay_script.specs.Quotes.{Spelling, between_quotes, given_by, is_between, may_repeat, place_after, spelled, spelling_in, spelling_of, text_of, times_of, unescaped}
use Rattle.replay_script.specs.Texts.{IsCode, IsMeant, IsText, StandsFor, Itself, Short, Code, Once, Times, escape_of, escaped, is_plain, quoted, short_letter}
use Rattle.replay_script.specs.declared.cuts.Quoting.TheVariants.{Outside, Inside}
use Rattle.replay_script.specs.declared.escapes.Place.TheVariants.{Between}
use Rattle.replay_script.specs.declared.quotes.TheConstants.{MOST_TIMES, MOST_CHARACTERS}
use Rattle.replay_script.proofs.EscapeLemmas.{between_is, escaped-plain, not_plain_small}
use Rattle.replay_script.proofs.Numerals.{number_is, number_of-decimal}
use Rattle.replay_script.proofs.Parts.{hex_is_ascii, parts_given, parts_read, short_not_plain, short_written}
use Rattle.replay_script.proofs.QuoteCuts.{IsLastQuote, quotes_around, quotes_at}
use Rattle.replay_script.proofs.Quoted.{character_passes, character_scalars, scalars-append}
use Rattle.replay_script.proofs.Spaces.{Passes, drop_behind, is_unquoted, passes-append, unquoted_parts, unquoted_passes}

-- a text in UTF-8 is cut in front of a character of ASCII, and behind it
pub record AreUtf8 (front back : List ℕ) : Type 0 where
  pub first : IsUtf8 front
  pub second : IsUtf8 back

pub utf8_cut : (front : List ℕ) (b : ℕ) (back : List ℕ) → b < 128 → IsUtf8 (front ++ b ∷ back) → AreUtf8 front back
utf8_cut front b back ascii utf8 =
    let whole = front ++ b ∷ back in
    let here : get_or whole (length front) 0 ≡ b = get_or_at front b back 0 (length front) refl in
    let within : length front < length whole = omega (arith, length-append front (b ∷ back)) in
    let low : get_or whole (length front) 0 < 128 = omega arith in
    let before = IsUtf8-take whole (length front) utf8 (IsCharBoundary-before_ascii whole (length front) within low) in
    let after = IsUtf8-drop whole (length front + 1) utf8 (IsCharBoundary-after_ascii whole (length front) utf8 within low) in
    record {
      first = subst IsUtf8 (take_at front (b ∷ back) (length front) refl) before;
      second = subst IsUtf8 (drop_behind front b back) after;
    }

-- a reading in two steps gives a value: so does each step
pub record BothGive {A B : Type 0} (first : Option A) (second : A → Option B) (value : B) : Type 0 where
  pub between : A
  pub one : first ≡ Some between
  pub two : second between ≡ Some value

pub both_give : {A B : Type 0} (first : Option A) (second : A → Option B) (value : B) → option_and_then second first ≡ Some value → BothGive first second value
both_give None second value given = cc
both_give (Some between) second value given = record { between = between; one = refl; two = given }

-- a value is made of one that a reading gives
pub record GivesMade {A B : Type 0} (first : Option A) (made : A → B) (value : B) : Type 0 where
  pub from : A
  pub one : first ≡ Some from
  pub two : made from ≡ value

pub made_gives : {A B : Type 0} (first : Option A) (made : A → B) (value : B) → option_map made first ≡ Some value → GivesMade first made value
made_gives None made value given = cc
made_gives (Some from) made value given = record { from = from; one = refl; two = cc }

-- bytes of ASCII
abbrev pub is_ascii : ℕ → Bool
is_ascii b = nat_lt b 128

pub all_implied : (p q : ℕ → Bool) → ((b : ℕ) → p b ≡ true → q b ≡ true) → (bytes : List ℕ) → list_all p bytes ≡ true → list_all q bytes ≡ true
all_implied p q implies [] all = refl
all_implied p q implies (b ∷ bytes) all =
    let parts = and_parts (p b) (list_all p bytes) all in
    rw (implies b parts.0) (all_implied p q implies bytes parts.1)

ascii_small : (b : ℕ) → is_ascii b ≡ true → b < 128
ascii_small b holds = grind (arith, nat_tests)

ascii_at : (bytes : List ℕ) → list_all is_ascii bytes ≡ true → IsAscii bytes
ascii_at [] all i = omega arith
ascii_at (b ∷ bytes) all zero = ascii_small b (and_parts (is_ascii b) (list_all is_ascii bytes) all).0
ascii_at (b ∷ bytes) all (suc i) = ascii_at bytes (and_parts (is_ascii b) (list_all is_ascii bytes) all).1 i

ascii_scalars : (bytes : List ℕ) → list_all is_ascii bytes ≡ true → all_scalars bytes ≡ true
ascii_scalars [] all = refl
ascii_scalars (b ∷ bytes) all =
    let parts = and_parts (is_ascii b) (list_all is_ascii bytes) all in
    let small = ascii_small b parts.0 in
    rw (low_scalar b (omega arith)) (ascii_scalars bytes parts.1)

hex_ascii : (b : ℕ) → is_lower_hex b ≡ true → is_ascii b ≡ true
hex_ascii b lower = let small = hex_is_ascii b lower in grind (arith, nat_tests)

code_ascii : (code : List ℕ) → list_all is_lower_hex code ≡ true → list_all is_ascii (codes "\\u{" ++ code ++ codes "}") ≡ true
code_ascii code lower = list_all-append is_ascii code (codes "}") ∙ rw (all_implied is_lower_hex is_ascii hex_ascii code lower) refl

hex_passes : (code : List ℕ) → list_all is_lower_hex code ≡ true → Passes Inside code Inside
hex_passes [] lower = record { no_end = refl; quoting = refl }
hex_passes (b ∷ code) lower =
    let parts = and_parts (is_lower_hex b) (list_all is_lower_hex code) lower in
    let digit = parts.0 in
    let no_quote : (b == 34) ≡ false = grind (arith, nat_tests, digit) in
    let no_backslash : (b == 92) ≡ false = grind (arith, nat_tests, digit) in
    let rest = hex_passes code parts.1 in
    record {
      no_end = rw (no_quote, no_backslash) (ap (option_map suc) rest.no_end);
      quoting = rw (no_quote, no_backslash) rest.quoting;
    }

code_passes : (code : List ℕ) → list_all is_lower_hex code ≡ true → Passes Inside (codes "\\u{" ++ code ++ codes "}") Inside
code_passes code lower =
    passes-append Inside Inside Inside (codes "\\u{") (code ++ codes "}") (record { no_end = refl; quoting = refl })
    (passes-append Inside Inside Inside code (codes "}") (hex_passes code lower) (record { no_end = refl; quoting = refl }))

-- what stands for a character: the search for a space passes it, and its characters are scalar values
record IsPart (part : List ℕ) : Type 0 where
  passes : Passes Inside (encode_utf8_all part) Inside
  scalars : all_scalars part ≡ true

escaped_part : (c : ℕ) → IsScalar c → IsPart (escaped c)
escaped_part c is_scalar = record { passes = character_passes c; scalars = character_scalars c is_scalar }

code_part : (code : List ℕ) (c : ℕ) → IsCode code c → IsPart (codes "\\u{" ++ code ++ codes "}")
code_part code c is =
    let part = codes "\\u{" ++ code ++ codes "}" in
    let ascii = code_ascii code is.lower in
    record {
      passes = subst (λ bytes. Passes Inside bytes Inside) (sym (encodes-IsAscii part (ascii_at part ascii))) (code_passes code is.lower);
      scalars = ascii_scalars part ascii;
    }

part_is : (part : List ℕ) (c : ℕ) → StandsFor part c → IsPart part
part_is part c (Itself is plain is_scalar) = subst IsPart (escaped-plain c plain ∙ sym is) (escaped_part c is_scalar)
part_is part c (Short letter is short) =
    let small = not_plain_small c (short_not_plain c letter short) in
    subst IsPart (short_written c letter short ∙ sym is) (escaped_part c (low_scalar c (omega arith)))
part_is part c (Code code is spells) = subst IsPart (sym is) (code_part code c spells)

parts_are : (parts : List (List ℕ)) (text : List ℕ) → AllZip StandsFor parts text → IsPart (concat parts)
parts_are [] [] spells = record { passes = record { no_end = refl; quoting = refl }; scalars = refl }
parts_are [] (c ∷ text) spells = absurd spells
parts_are (part ∷ parts) [] spells = absurd spells
parts_are (part ∷ parts) (c ∷ text) spells =
    let one = part_is part c spells.0 in
    let rest = parts_are parts text spells.1 in
    record {
      passes =
          subst (λ bytes. Passes Inside bytes Inside) (sym (encodes-append part (concat parts)))
          (passes-append Inside Inside Inside (encode_utf8_all part) (encode_utf8_all (concat parts)) one.passes rest.passes);
      scalars = scalars-append part (concat parts) one.scalars rest.scalars;
    }

-- decimal digits have no quotes and no spaces
unquoted_by_index : (bytes : List ℕ) → ((k : ℕ) → k < length bytes → 48 ≤ get_or bytes k 0) → list_all is_unquoted bytes ≡ true
unquoted_by_index [] digits = refl
unquoted_by_index (b ∷ bytes) digits =
    let here : 48 ≤ b = digits 0 (omega arith) in
    let unquoted : is_unquoted b ≡ true = grind (arith, nat_tests) in
    rw unquoted (unquoted_by_index bytes (λ k within. digits (suc k) (omega arith)))

pub decimal_unquoted : (n : ℕ) → n < 2 ^ 64 → list_all is_unquoted (decimal n) ≡ true
decimal_unquoted n small = unquoted_by_index (decimal n) (λ k within. (digit_at (decimal n) k (decimal_is_IsNumeral n small).0.1 within).0)

-- what stands behind the closing quote
record IsBehind (behind once text : List ℕ) : Type 0 where
  unquoted : list_all is_unquoted behind ≡ true
  times : ℕ
  read : times_of (length once) behind ≡ Some times
  whole : text ≡ repeat times once

behind_is : (behind once text : List ℕ) → IsMeant behind once text → IsBehind behind once text
behind_is behind once text (Once none same) =
    record {
      unquoted = ap (λ b. list_all is_unquoted b) none;
      times = 1;
      read = ap (times_of (length once)) none;
      whole = same ∙ sym (append-nil once);
    }
behind_is behind once text (Times times is may same) =
    let some : nat_lt 0 times ≡ true = grind (arith, nat_tests, may.some) in
    let few : nat_le times MOST_TIMES ≡ true = grind (arith, nat_tests, may.few) in
    let short : nat_le (times * length once) MOST_CHARACTERS ≡ true = grind (arith, nat_tests, may.short) in
    let small : times < 2 ^ 64 = omega (arith, may.few) in
    let read : times_of (length once) (42 ∷ decimal times) ≡ Some times = rw (number_of-decimal times small, some, few, short) refl in
    record {
      unquoted = ap (λ b. list_all is_unquoted b) is ∙ decimal_unquoted times small;
      times = times;
      read = ap (times_of (length once)) is ∙ read;
      whole = same;
    }

unquoted_at : (bytes : List ℕ) (k : ℕ) → list_all is_unquoted bytes ≡ true → k < length bytes → get_or bytes k 0 ≢ 34
unquoted_at [] k all within = absurd (omega (arith, within))
unquoted_at (b ∷ bytes) zero all within =
    let tests = unquoted_parts b (and_parts (is_unquoted b) (list_all is_unquoted bytes) all).0 in
    λ same. false≢true (sym tests.0 ∙ ap (λ c. c == 34) same)
unquoted_at (b ∷ bytes) (suc k) all within = unquoted_at bytes k (and_parts (is_unquoted b) (list_all is_unquoted bytes) all).1 (omega (arith, within))

-- what stands between the quotes is found, where nothing behind it is a quote
found_between : (inside behind : List ℕ) → list_all is_unquoted behind ≡ true → between_quotes (34 ∷ inside ++ 34 ∷ behind) ≡ Some (inside, behind)
found_between inside behind unquoted =
    let rest = inside ++ 34 ∷ behind in
    let i = length inside in
    let back : drop (i + 1) rest ≡ behind = drop_behind inside 34 behind in
    let count = length-append inside (34 ∷ behind) in
    let last : IsLastQuote rest i (i + 1) = record {
      within = omega (arith, count);
      next = refl;
      quote = get_or_at inside 34 behind 0 i refl;
      last = λ k past within quote.
          let place : i + 1 + (k - (i + 1)) ≡ k = omega arith in
          let there : get_or behind (k - (i + 1)) 0 ≡ 34 =
          ap (λ b. get_or b (k - (i + 1)) 0) (sym back) ∙ get_or-drop (i + 1) rest (k - (i + 1)) 0 ∙ ap (λ p. get_or rest p 0) place ∙ quote in
          unquoted_at behind (k - (i + 1)) unquoted (omega (arith, count)) there;
    } in
    quotes_at rest i (i + 1) last ∙ ap₂ (λ front tail. Some (front, tail)) (take_at inside (34 ∷ behind) i refl) back

-- an argument that spells a text is read as it
pub text_read : (argument text : List ℕ) → IsText argument text → text_of argument ≡ Some text
text_read argument text is =
    let characters = concat is.parts in
    let inside = encode_utf8_all characters in
    let behind = behind_is is.behind is.once text is.meant in
    let reads = parts_read is.parts is.once is.spells in
    let decoded : chars inside ≡ characters = chars-encodes characters (parts_are is.parts is.once is.spells).scalars in
    let once : unescaped characters ≡ Some is.once = rw (reads.place, reads.given) refl in
    let spelling : spelling_in (inside, is.behind) ≡ Some (record { inside = inside; times = behind.times }) = rw (decoded, once, behind.read) refl in
    let given : given_by Between (chars inside) ≡ is.once = ap (given_by Between) decoded ∙ reads.given in
    ap text_of is.stands
    ∙ ap (λ parts. option_map spelled (option_and_then spelling_in parts)) (found_between inside is.behind behind.unquoted)
    ∙ ap (option_map spelled) spelling
    ∙ ap Some (ap (repeat behind.times) given ∙ sym behind.whole)

record IsUnescaped (characters once : List ℕ) : Type 0 where
  ends : place_after Between characters ≡ Between
  given : given_by Between characters ≡ once

unescaped_is : (characters once : List ℕ) → unescaped characters ≡ Some once → IsUnescaped characters once
unescaped_is characters once found =
    elim (cases_Bool (is_between (place_after Between characters))) [
      | inl holds ↦ record { ends = between_is _ holds; given = let same = rw holds at found in cc }
      | inr fails ↦ let none = rw fails at found in cc
    ]

-- how often a text is meant, by what is read behind the closing quote
meant_by : (behind once : List ℕ) (times : ℕ) → times_of (length once) behind ≡ Some times → IsMeant behind once (repeat times once)
meant_by [] once times read =
    let one : 1 ≡ times = cc in
    Once refl (subst (λ n. repeat n once ≡ once) one (append-nil once))
meant_by (b ∷ behind) once times read =
    elim (cases_Bool (b == 42)) [
      | inr fails ↦ let none = rw fails at read in cc
      | inl star ↦
          let may = λ (n : ℕ). if may_repeat (length once) n then Some n else None in
          let found : option_and_then may (number_of behind) ≡ Some times = rw star at read in
          let both = both_give (number_of behind) may times found in
          let n = both.between in
          let number = number_is behind n both.one in
          elim (cases_Bool (may_repeat (length once) n)) [
            | inr fails ↦ let none = rw fails at both.two in cc
            | inl holds ↦
                let same : n ≡ times = let got = rw holds at both.two in cc in
                let tests = and_parts (nat_lt 0 n && nat_le n MOST_TIMES) (nat_le (n * length once) MOST_CHARACTERS) holds in
                let front = and_parts (nat_lt 0 n) (nat_le n MOST_TIMES) tests.0 in
                let some : 0 < n = grind (arith, nat_tests, front.0) in
                let few : n ≤ MOST_TIMES = grind (arith, nat_tests, front.1) in
                let short : n * length once ≤ MOST_CHARACTERS = grind (arith, nat_tests, tests.1) in
                let is : b ∷ behind ≡ 42 ∷ decimal n = ap₂ (λ c t. c ∷ t) (eqb-true b 42 star) number.digits in
                subst (λ m. IsMeant (b ∷ behind) once (repeat m once)) same
                (Times n is (record { some = some; few = few; short = short }) refl)
          ]
    ]

-- an argument that is read as a text spells it
pub text_spelled : (argument text : List ℕ) → IsUtf8 argument → text_of argument ≡ Some text → IsText argument text
text_spelled argument text utf8 read =
    let whole = made_gives (spelling_of argument) spelled text read in
    let around = both_give (between_quotes argument) spelling_in whole.from whole.one in
    let inside = around.between.0 in
    let behind = around.between.1 in
    let once = both_give (unescaped (chars inside)) (λ once. option_map (λ times. record { inside = inside; times = times }) (times_of (length once) behind)) whole.from around.two in
    let times = made_gives (times_of (length once.between) behind) (λ n. let spelling : Spelling = record { inside = inside; times = n } in spelling) whole.from once.two in
    let stands : argument ≡ 34 ∷ inside ++ 34 ∷ behind = quotes_around argument around.between around.one in
    let rest = utf8_cut [] 34 (inside ++ 34 ∷ behind) (omega arith) (subst IsUtf8 stands utf8) in
    let inner = (utf8_cut inside 34 behind (omega arith) rest.second).first in
    let is = unescaped_is (chars inside) once.between once.one in
    let parts = parts_given (chars inside) (scalars-chars inside inner) is.ends in
    let encoded : encode_utf8_all (concat parts.parts) ≡ inside = ap encode_utf8_all parts.whole ∙ encodes-chars inside inner in
    let repeated : repeat times.from once.between ≡ text =
    ap (repeat times.from) (sym is.given) ∙ ap spelled times.two ∙ whole.two in
    record {
      parts = parts.parts;
      once = once.between;
      behind = behind;
      stands = stands ∙ ap (λ bytes. 34 ∷ bytes ++ 34 ∷ behind) (sym encoded);
      spells = subst (AllZip StandsFor parts.parts) is.given parts.spells;
      meant = subst (IsMeant behind once.between) repeated (meant_by behind once.between times.from times.one);
    }

-- the search for a space passes it
pub text_passes : (argument text : List ℕ) → IsText argument text → Passes Outside argument Outside
text_passes argument text is =
    let inside = encode_utf8_all (concat is.parts) in
    let behind = behind_is is.behind is.once text is.meant in
    let closing : Passes Inside (34 ∷ is.behind) Outside =
    passes-append Inside Outside Outside (34 ∷ []) is.behind (record { no_end = refl; quoting = refl }) (unquoted_passes is.behind behind.unquoted) in
    subst (λ bytes. Passes Outside bytes Outside) (sym is.stands)
    (passes-append Outside Inside Outside (34 ∷ []) (inside ++ 34 ∷ is.behind) (record { no_end = refl; quoting = refl })
    (passes-append Inside Inside Outside inside (34 ∷ is.behind) (parts_are is.parts is.once is.spells).passes closing))

-- the code of a character of ASCII that is written with one
abbrev has_code : ℕ → Bool
has_code c =
    let code = digits 16 false c in
    is_plain c || (is_some (short_letter c) || (nat_lt 0 (length code) && nat_le (length code) 6 && list_all is_lower_hex code && digits_value 16 code == c))

all_have_codes : agree_below has_code (λ _. true) 128 ≡ true
unfolding digits
all_have_codes = refl

left_fails : (a b : Bool) → (a || b) ≡ true → a ≡ false → b ≡ true
left_fails true b either fails = absurd (false≢true (sym fails))
left_fails false b either fails = either

written_code : (c : ℕ) → is_plain c ≡ false → is_some (short_letter c) ≡ false → IsCode (digits 16 false c) c
written_code c fails no_letter =
    let small = not_plain_small c fails in
    let code = digits 16 false c in
    let holds = left_fails _ _ (left_fails _ _ (agree_below_at has_code (λ _. true) 128 c all_have_codes small) fails) no_letter in
    let valued = and_parts (nat_lt 0 (length code) && nat_le (length code) 6 && list_all is_lower_hex code) (digits_value 16 code == c) holds in
    let lower = and_parts (nat_lt 0 (length code) && nat_le (length code) 6) (list_all is_lower_hex code) valued.0 in
    let counted = and_parts (nat_lt 0 (length code)) (nat_le (length code) 6) lower.0 in
    record {
      some = grind (arith, nat_tests, counted.0);
      few = grind (arith, nat_tests, counted.1);
      lower = lower.1;
      value = eqb-true (digits_value 16 code) c valued.1;
      scalar = low_scalar c (omega arith);
    }

stands_for : (c : ℕ) (o : Option ℕ) → short_letter c ≡ o → is_plain c ≡ false → StandsFor (escape_of c o) c
stands_for c (Some letter) short fails = Short letter refl short
stands_for c None none fails = Code (digits 16 false c) refl (written_code c fails (ap is_some none))

-- a character as it is written stands for it
escaped_stands : (c : ℕ) → IsScalar c → StandsFor (escaped c) c
escaped_stands c is_scalar =
    elim (cases_Bool (is_plain c)) [
      | inl plain ↦ Itself (escaped-plain c plain) plain is_scalar
      | inr fails ↦
          let same : escape_of c (short_letter c) ≡ escaped c = rw fails refl in
          subst (λ part. StandsFor part c) same (stands_for c (short_letter c) refl fails)
    ]

all_stand : (text : List ℕ) → all_scalars text ≡ true → AllZip StandsFor (map escaped text) text
all_stand [] scalars = tt
all_stand (c ∷ text) scalars =
    let parts = and_parts (scalar c) (all_scalars text) scalars in
    (escaped_stands c parts.0, all_stand text parts.1)

concat_escaped : (text : List ℕ) → concat (map escaped text) ≡ flat_map escaped text
concat_escaped [] = refl
concat_escaped (c ∷ text) = ap (λ t. escaped c ++ t) (concat_escaped text)

-- a text as it is written spells it
pub text_written : (text : List ℕ) → all_scalars text ≡ true → IsText (quoted text) text
text_written text scalars =
    record {
      parts = map escaped text;
      once = text;
      behind = [];
      stands = ap (λ characters. 34 ∷ encode_utf8_all characters ++ 34 ∷ []) (sym (concat_escaped text));
      spells = all_stand text scalars;
      meant = Once refl refl;
    }
