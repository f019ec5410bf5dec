-- Texts in quotes: what stands between the quotes for a character, how often the text is meant, and how a text is written.
-- They are this project's own; the escapes are among those of Rust's string literals (the Rust Reference, "Tokens").
use Rattle.std.specs.Prelude.{◌≡◌, ℕ, ◌*◌, ◌<◌, ◌≤◌, ◌==◌, Bool, true, false, ◌&&◌, ◌||◌, not, List, [], ◌∷◌, ◌++◌}
use Rattle.std.specs.Prelude.{length, nat_lt, Option, Some, None, codes, encode_utf8_all, if◌then◌else◌}
use Rattle.std.specs.Char.{IsScalar}
use Rattle.std.specs.Fmt.{decimal, digits}
use Rattle.std.specs.List.{AllZip, concat, repeat, flat_map, list_all}
use Rattle.std.specs.Str.Parse.{digits_value}
use Rattle.replay_script.specs.Characters.{tab, line_feed, carriage_return, unit_separator, quote, star, backslash, letter_n, letter_r, letter_t, delete, is_lower_hex}
use Rattle.replay_script.specs.declared.quotes.TheConstants.{MOST_TIMES, MOST_CHARACTERS}

-- a character that stands for itself between quotes: no quote, backslash or control character of ASCII
abbrev pub is_plain : ℕ → Bool
is_plain c = nat_lt unit_separator c && not (c == quote) && not (c == backslash) && not (c == delete)

-- the letter behind the backslash, for the characters that have a short escape: `\"`, `\\`, `\n`, `\r` and `\t`
abbrev pub short_letter : ℕ → Option ℕ
short_letter c =
    if c == quote || c == backslash then Some c
    else (if c == line_feed then Some letter_n
    else (if c == carriage_return then Some letter_r
    else (if c == tab then Some letter_t
    else None)))

-- the digits of `\u{H}`: one to six of hexadecimal in lower case, which spell a scalar value (the Unicode Standard, section 3.9)
pub record IsCode (code : List ℕ) (c : ℕ) : Type 0 where
  pub some : 0 < length code
  pub few : length code ≤ 6
  pub lower : list_all is_lower_hex code ≡ true
  pub value : digits_value 16 code ≡ c
  pub scalar : IsScalar c

-- what may stand between the quotes for one character: itself, its short escape, or `\u{H}`
pub data StandsFor (part : List ℕ) (c : ℕ) : Type 0 where
  Itself : part ≡ c ∷ [] → is_plain c ≡ true → IsScalar c → StandsFor part c
  Short : (letter : ℕ) → part ≡ backslash ∷ letter ∷ [] → short_letter c ≡ Some letter → StandsFor part c
  Code : (code : List ℕ) → part ≡ codes "\\u{" ++ code ++ codes "}" → IsCode code c → StandsFor part c

-- a text of this length may be meant so many times
pub record MayRepeat (times len : ℕ) : Type 0 where
  pub some : 0 < times
  pub few : times ≤ MOST_TIMES
  pub short : times * len ≤ MOST_CHARACTERS

-- what stands behind the closing quote says how often the text is meant: once where it is nothing, and N times where it is `*N`
pub data IsMeant (behind once text : List ℕ) : Type 0 where
  Once : behind ≡ [] → text ≡ once → IsMeant behind once text
  Times : (times : ℕ) → behind ≡ star ∷ decimal times → MayRepeat times (length once) → text ≡ repeat times once → IsMeant behind once text

-- a text in quotes, in UTF-8: one part after another, each for a character
pub record IsText (argument text : List ℕ) : Type 0 where
  pub parts : List (List ℕ)
  pub once : List ℕ
  pub behind : List ℕ
  pub stands : argument ≡ quote ∷ encode_utf8_all (concat parts) ++ quote ∷ behind
  pub spells : AllZip StandsFor parts once
  pub meant : IsMeant behind once text

-- a character as it is written between quotes: itself where it may stand there, else its short escape, else `\u{H}` without leading zeros
abbrev pub escape_of : ℕ → Option ℕ → List ℕ
escape_of c (Some letter) = backslash ∷ letter ∷ []
escape_of c None = codes "\\u{" ++ digits 16 false c ++ codes "}"

abbrev pub escaped : ℕ → List ℕ
escaped c = if is_plain c then c ∷ [] else escape_of c (short_letter c)

-- a text as it is written, in quotes and in UTF-8
abbrev pub quoted : List ℕ → List ℕ
quoted text = quote ∷ encode_utf8_all (flat_map escaped text) ++ quote ∷ []
