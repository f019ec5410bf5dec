-- How a text in quotes is read: a transducer goes over the characters between the quotes. It stands at a place, and each
-- character leads to the next place, and may give a character of the text.
use Rattle.std.specs.Prelude.{ℕ, ◌+◌, ◌*◌, ◌==◌, Bool, true, false, ◌&&◌, ◌||◌, List, [], ◌∷◌, ◌++◌}
use Rattle.std.specs.Prelude.{length, drop, slice_index, nat_lt, nat_le, Option, Some, None, option_to_list, option_and_then, if◌then◌else◌}
use Rattle.std.specs.Option.{option_map}
use Rattle.std.specs.List.{list_any, before_last, after_last, repeat}
use Rattle.std.specs.Char.{digit_value}
use Rattle.std.specs.Str.{chars}
use Rattle.replay_script.specs.Characters.{tab, line_feed, carriage_return, quote, star, backslash, letter_n, letter_r, letter_t, letter_u, opening_brace, closing_brace, is_lower_hex}
use Rattle.replay_script.specs.Numbers.{number_of}
use Rattle.replay_script.specs.Texts.{is_plain}
use Rattle.replay_script.specs.declared.escapes.Place.{Place}
use Rattle.replay_script.specs.declared.escapes.Place.TheVariants.{Between, Escape, Unicode, Digits, Wrong}
use Rattle.replay_script.specs.declared.escapes.Step.{Step}
use Rattle.replay_script.specs.declared.quotes.Spelling.{Spelling as Written}
use Rattle.replay_script.specs.declared.quotes.TheConstants.{MOST_TIMES, MOST_CHARACTERS}

-- the reading goes on at a place
abbrev pub goes_to : Place → Step
goes_to place = record { place = place; given = None }

-- the reading gives a character
abbrev pub gives : ℕ → Step
gives c = record { place = Between; given = Some c }

-- it gives the character, or is wrong from here on
abbrev pub gives_if_some : Option ℕ → Step
gives_if_some None = goes_to Wrong
gives_if_some (Some c) = gives c

-- the character of a short escape, by what stands behind the backslash
abbrev pub short_escape : ℕ → Option ℕ
short_escape c =
    if c == quote || c == backslash then Some c
    else (if c == letter_n then Some line_feed
    else (if c == letter_r then Some carriage_return
    else (if c == letter_t then Some tab
    else None)))

-- a code point that is no surrogate
abbrev pub is_scalar : ℕ → Bool
is_scalar c = if nat_lt c 0xd800 then true else nat_le 0xe000 c && nat_lt c 0x110000

-- the scalar value that so many digits spell
abbrev pub scalar_of : ℕ → ℕ → Option ℕ
scalar_of count value = if nat_lt 0 count && is_scalar value then Some value else None

-- where the reading goes in front of a character or an escape
abbrev pub step_between : ℕ → Step
step_between c = if c == backslash then goes_to Escape else (if is_plain c then gives c else goes_to Wrong)

-- behind a backslash
abbrev pub step_escape : ℕ → Step
step_escape c = if c == letter_u then goes_to Unicode else gives_if_some (short_escape c)

-- behind `\u`
abbrev pub step_unicode : ℕ → Step
step_unicode c = if c == opening_brace then goes_to (Digits 0 0) else goes_to Wrong

-- behind `\u{` and so many digits, of which there are six at most
abbrev pub step_digits : ℕ → ℕ → ℕ → Step
step_digits count value c =
    if c == closing_brace then gives_if_some (scalar_of count value)
    else (if is_lower_hex c && nat_lt count 6 && nat_lt value 1048576 then goes_to (Digits (count + 1) (16 * value + digit_value c))
    else goes_to Wrong)

-- where the reading goes at each character
abbrev pub step_at : Place → ℕ → Step
step_at Between c = step_between c
step_at Escape c = step_escape c
step_at Unicode c = step_unicode c
step_at (Digits count value) c = step_digits count value c
step_at Wrong c = goes_to Wrong

-- the place behind these characters
abbrev pub place_after : Place → List ℕ → Place
place_after place [] = place
place_after place (c ∷ characters) = place_after (step_at place c).place characters

-- the characters that are given by then
abbrev pub given_by : Place → List ℕ → List ℕ
given_by place [] = []
given_by place (c ∷ characters) = option_to_list (step_at place c).given ++ given_by (step_at place c).place characters

-- the reading may end here
abbrev pub is_between : Place → Bool
is_between Between = true
is_between _ = false

-- the text that these characters between quotes spell
abbrev pub unescaped : List ℕ → Option (List ℕ)
unescaped characters = if is_between (place_after Between characters) then Some (given_by Between characters) else None

-- how a text is spelled: the bytes between the quotes, and how often
pub record Spelling : Type 0 where
  pub inside : List ℕ
  pub times : ℕ

-- the same, of the code's spelling
abbrev pub seen : Written → Spelling
seen written = record { inside = written.inside.now; times = written.times }

-- a quote
abbrev pub is_quote : ℕ → Bool
is_quote b = b == quote

-- a text of this length may be spelled so often
abbrev pub may_repeat : ℕ → ℕ → Bool
may_repeat len times = nat_lt 0 times && nat_le times MOST_TIMES && nat_le (times * len) MOST_CHARACTERS

-- how often a text of this length is spelled, by what stands behind the closing quote
abbrev pub times_of : ℕ → List ℕ → Option ℕ
times_of len [] = Some 1
times_of len (b ∷ behind) =
    if b == star
    then option_and_then (λ times. if may_repeat len times then Some times else None) (number_of behind)
    else None

-- what stands between the first quote, with which an argument is to begin, and the last, and what stands behind the last
abbrev pub between_quotes : List ℕ → Option (List ℕ × List ℕ)
between_quotes argument =
    let rest = drop 1 argument in
    if slice_index argument 0 == quote && list_any is_quote rest then Some (before_last is_quote rest, after_last is_quote rest) else None

-- the spelling that stands there
abbrev pub spelling_in : List ℕ × List ℕ → Option Spelling
spelling_in parts =
    option_and_then (λ text. option_map (λ times. record { inside = parts.0; times = times }) (times_of (length text) parts.1)) (unescaped (chars parts.0))

-- the spelling that an argument is
abbrev pub spelling_of : List ℕ → Option Spelling
spelling_of argument = option_and_then spelling_in (between_quotes argument)

-- the text that is spelled
abbrev pub spelled : Spelling → List ℕ
spelled spelling = repeat spelling.times (given_by Between (chars spelling.inside))

-- the text that an argument spells
abbrev pub text_of : List ℕ → Option (List ℕ)
text_of argument = option_map spelled (spelling_of argument)
