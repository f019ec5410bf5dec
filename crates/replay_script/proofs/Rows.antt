-- Lines and what they ask for, computed.
use Rattle.std.proofs.Common.{◌≡◌, true, false, [], ◌∷◌, Some, None, codes, refl}
use Rattle.std.specs.Char.{encode_utf8}
use Rattle.std.specs.Fmt.{digits}
use Rattle.std.specs.Str.{chars, is_utf8}
use Rattle.hex.specs.Hex.{encode_with}
use Rattle.tt_base.specs.declared.contents.Content.TheVariants.{Absent, Bytes}
use Rattle.replay_script.specs.Grammar.{line_of, path_text}
use Rattle.replay_script.specs.Lines.{line_asks}
use Rattle.replay_script.specs.Quotes.{may_repeat}
use Rattle.replay_script.specs.Texts.{quoted}
use Rattle.replay_script.specs.declared.moves.Move.{Move}

typed_is_read : line_asks (codes "type 0 1 1 \"X\"") ≡ Some (Some (Move.Typed 0 1 1 (codes "X")))
unfolding digits chars
typed_is_read = refl

typed_is_written : line_of (Move.Typed 0 1 1 (codes "X")) ≡ codes "type 0 1 1 \"X\""
unfolding digits encode_utf8
typed_is_written = refl

path_with_a_space : path_text (codes "a b") ≡ codes "\"a b\""
unfolding chars encode_utf8
path_with_a_space = refl

escapes_are_written : quoted (34 ∷ 92 ∷ 10 ∷ 0 ∷ 31 ∷ 127 ∷ []) ≡ codes "\"\\\"\\\\\\n\\u{0}\\u{1f}\\u{7f}\""
unfolding digits encode_utf8
escapes_are_written = refl

three_times : line_asks (codes "editor 0 0 \"a b\" \"\\u{e4}c\"*3") ≡ Some (Some (Move.Editor 0 0 (codes "a b") (228 ∷ 99 ∷ 228 ∷ 99 ∷ 228 ∷ 99 ∷ [])))
unfolding digits chars encode_utf8
three_times = refl

leading_zero : line_asks (codes "up 01") ≡ None
unfolding digits
leading_zero = refl

two_spaces : line_asks (codes "up  1") ≡ None
unfolding digits
two_spaces = refl

surrogate : line_asks (codes "type 0 0 0 \"\\u{d800}\"") ≡ None
unfolding digits chars
surrogate = refl

comment : line_asks (codes "#") ≡ Some None
comment = refl

comment_behind_a_space : line_asks (codes " #") ≡ None
comment_behind_a_space = refl

as_often_as_may_be : (may_repeat 4 4194304 ≡ true) × (may_repeat 0 4194304 ≡ true)
as_often_as_may_be = (refl, refl)

too_often : (may_repeat 0 4194305 ≡ false) × ((may_repeat 5 4194304 ≡ false) × (may_repeat 1 0 ≡ false))
too_often = (refl, (refl, refl))

-- bytes of a file that are no text, and a folder that has none
another_content : (line_of (Move.Outside 0 (codes "f") (Bytes (195 ∷ []))) ≡ codes "outside 0 f hex c3") × (line_of (Move.Report 0 (codes "f") Absent) ≡ codes "report 0 f absent")
unfolding digits chars is_utf8 encode_utf8 encode_with
another_content = (refl, refl)

number_too_large : line_asks (codes "up 18446744073709551616") ≡ None
unfolding digits
number_too_large = refl

upper_case_digits : (line_asks (codes "hear 0 7 0A") ≡ None) × (line_asks (codes "type 0 0 0 \"\\u{E4}\"") ≡ None)
unfolding digits chars
upper_case_digits = (refl, refl)
