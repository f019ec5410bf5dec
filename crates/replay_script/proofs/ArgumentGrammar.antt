-- Arguments, form by form: what the reader gives of a text is what the grammar says of it, both ways; the search for a space passes
-- an argument that may stand in front of another; and what is written for an argument spells it.
use Rattle.std.proofs.Common.{◌≡◌, ℕ, zero, suc, ◌/◌, ◌%◌, ◌<◌, ◌+◌, ◌*◌, ◌==◌, ◌&&◌, ◌||◌, Bool, true, false, List, [], ◌∷◌, ◌++◌, length, take, drop}
use Rattle.std.proofs.Common.{Option, Some, None, is_none, Ok, refl, sym, ap, ap₂, ◌∙◌, subst, arith, inl, inr, codes, eqb-true}
use Rattle.std.specs.Prelude.{IsUtf8, encode_utf8_all, slice_index, nat_lt, not}
use Rattle.std.specs.Fmt.{decimal}
use Rattle.std.specs.List.{list_all, starts_with}
use Rattle.std.specs.Result.{result_unwrap_or}
use Rattle.std.specs.Str.{bytes_eq, chars, is_utf8}
use Rattle.std.proofs.lemmas.Bool.{cases_Bool, and_parts, false≢true, agree_below, agree_below_at}
use Rattle.std.proofs.lemmas.Bool.Decides.{nat_tests}
use Rattle.std.proofs.lemmas.List.{take-append-drop}
use Rattle.std.specs.Char.{digit_value}
use Rattle.std.proofs.lemmas.Slice.Eq.{bytes_eq-Decides}
use Rattle.std.proofs.lemmas.Str.{IsUtf8-from_is_utf8, encodes-chars, scalars-chars}
use Rattle.hex.specs.Hex.{encode_with, encode_lower, decode_of, lower_digits, IsBytes}
use Rattle.hex.proofs.HexLemmas.{length-encode_with, decode_of-encode_lower}
use Rattle.tt_base.specs.Path.{path_fault}
use Rattle.tt_base.specs.declared.contents.Content.{Content}
use Rattle.tt_base.specs.declared.contents.Content.TheVariants.{Absent, Bytes, Larger}
use Rattle.replay_script.specs.Arguments.{Form, Value, read, Number, Path, Text, Contents, StopMode, Hexadecimal, Speaks}
use Rattle.replay_script.specs.Characters.{is_lower_hex}
use Rattle.replay_script.specs.Contents.{content_of, file_of, mode_of, speaker_of, speaker_word}
use Rattle.replay_script.specs.Grammar.{Argument, Number as ANumber, Path as APath, Text as AText, Contents as AContents, StopMode as AStopMode, Hexadecimal as SomeHex, Fixed}
use Rattle.replay_script.specs.Grammar.{IsPath, Bare, Quoted, IsHexadecimal, IsFile, InQuotes, InHex, IsContent, Spells, content_text, file_text, is_bare, mode_word, path_text, written}
use Rattle.replay_script.specs.Laws.{IsShared, HoldsBytes, IsWritable}
use Rattle.replay_script.specs.Numbers.{bytes_of, is_hexadecimal, number_of}
use Rattle.replay_script.specs.Paths.{sound_path, path_of}
use Rattle.replay_script.specs.Quotes.{text_of}
use Rattle.replay_script.specs.Texts.{quoted}
use Rattle.replay_script.specs.declared.contents.Speaker.{Speaker}
use Rattle.replay_script.specs.declared.contents.Speaker.TheVariants.{Editor, Peer}
use Rattle.replay_script.specs.declared.cuts.Quoting.TheVariants.{Outside}
use Rattle.outside.specs.declared.modes.Mode.{Mode}
use Rattle.outside.specs.declared.modes.Mode.TheVariants.{Lost, Kept, Torn}
use Rattle.replay_script.proofs.Numerals.{number_is, number_of-decimal}
use Rattle.replay_script.proofs.Parts.{hex_digit, hex_is_ascii, second_holds}
use Rattle.replay_script.proofs.Spaces.{Passes, is_unquoted, unquoted_passes}
use Rattle.replay_script.proofs.TextGrammar.{both_give, made_gives, all_implied, decimal_unquoted, text_passes, text_read, text_spelled, text_written}

-- the argument that a value of a form is
abbrev pub argument : (form : Form) → Value form → Argument
argument Number n = ANumber n
argument Path path = APath path
argument Text text = AText text
argument Contents content = AContents content
argument StopMode mode = AStopMode mode
argument Hexadecimal bytes = SomeHex bytes
argument Speaks speaker = Fixed (speaker_word speaker)

some_same : (a b : List ℕ) → Some a ≡ Some b → a ≡ b
some_same a b same = cc

-- hexadecimal digits, from bytes
hex_digits_lower : agree_below (λ d. is_lower_hex (slice_index lower_digits d)) (λ _. true) 16 ≡ true
hex_digits_lower = refl

digit_lower : (d : ℕ) → d < 16 → is_lower_hex (slice_index lower_digits d) ≡ true
digit_lower d small = agree_below_at (λ d. is_lower_hex (slice_index lower_digits d)) (λ _. true) 16 d hex_digits_lower small

encoded_lower : (bytes : List ℕ) → IsBytes bytes → list_all is_lower_hex (encode_lower bytes) ≡ true
unfolding encode_with
encoded_lower [] are = refl
encoded_lower (b ∷ bytes) are =
    let small : b < 256 = are 0 in
    let high = digit_lower (b / 16) (omega arith) in
    let low = digit_lower (b % 16) (omega arith) in
    rw (high, low) (encoded_lower bytes (λ i. are (suc i)))

hexadecimal_read : (text bytes : List ℕ) → IsHexadecimal text bytes → bytes_of text ≡ Some bytes
hexadecimal_read text bytes is =
    let len = length-encode_with lower_digits bytes in
    let some : nat_lt 0 (length (encode_lower bytes)) ≡ true = grind (arith, nat_tests, is.some) in
    let even : (length (encode_lower bytes) % 2 == 0) ≡ true = grind (arith, nat_tests) in
    ap bytes_of is.digits ∙ rw (some, even, encoded_lower bytes is.are, decode_of-encode_lower bytes is.are) refl

-- a digit in lower case is the one that its value is written with
abbrev is_own_digit : ℕ → Bool
is_own_digit c = not (is_lower_hex c) || (slice_index lower_digits (digit_value c) == c)

all_own_digits : agree_below is_own_digit (λ _. true) 128 ≡ true
all_own_digits = refl

own_digit : (c : ℕ) → is_lower_hex c ≡ true → slice_index lower_digits (digit_value c) ≡ c
own_digit c lower = eqb-true _ c (second_holds _ _ (agree_below_at is_own_digit (λ _. true) 128 c all_own_digits (hex_is_ascii c lower)) lower)

-- the bytes of digits in pairs
record Pairs (digits : List ℕ) : Type 0 where
  bytes : List ℕ
  encoded : encode_lower bytes ≡ digits
  are : IsBytes bytes

byte_before : (b : ℕ) (bytes : List ℕ) → b < 256 → IsBytes bytes → IsBytes (b ∷ bytes)
byte_before b bytes small are zero = small
byte_before b bytes small are (suc i) = are i

pairs_of : (digits : List ℕ) → list_all is_lower_hex digits ≡ true → length digits % 2 ≡ 0 → Pairs digits
unfolding encode_with
pairs_of [] lower even = record { bytes = []; encoded = refl; are = λ i. omega arith }
pairs_of (a ∷ []) lower even = absurd (omega (arith, even))
pairs_of (a ∷ b ∷ rest) lower even =
    let first = and_parts (is_lower_hex a) (list_all is_lower_hex (b ∷ rest)) lower in
    let second = and_parts (is_lower_hex b) (list_all is_lower_hex rest) first.1 in
    let pairs = pairs_of rest second.1 (omega (arith, even)) in
    let high = (hex_digit a first.0).small in
    let low = (hex_digit b second.0).small in
    let byte = 16 * digit_value a + digit_value b in
    let upper : byte / 16 ≡ digit_value a = omega arith in
    let lower_half : byte % 16 ≡ digit_value b = omega arith in
    record {
      bytes = byte ∷ pairs.bytes;
      encoded =
          ap (λ n. slice_index lower_digits n ∷ slice_index lower_digits (byte % 16) ∷ encode_lower pairs.bytes) upper
          ∙ ap (λ n. slice_index lower_digits (digit_value a) ∷ slice_index lower_digits n ∷ encode_lower pairs.bytes) lower_half
          ∙ ap (λ c. c ∷ slice_index lower_digits (digit_value b) ∷ encode_lower pairs.bytes) (own_digit a first.0)
          ∙ ap₂ (λ c t. a ∷ c ∷ t) (own_digit b second.0) pairs.encoded;
      are = byte_before byte pairs.bytes (omega arith) pairs.are;
    }

-- and back
hexadecimal_spelled : (text bytes : List ℕ) → bytes_of text ≡ Some bytes → IsHexadecimal text bytes
hexadecimal_spelled text bytes found =
    elim (cases_Bool (is_hexadecimal text)) [
      | inr fails ↦ let none = rw fails at found in cc
      | inl holds ↦
          let tests = and_parts (nat_lt 0 (length text) && length text % 2 == 0) (list_all is_lower_hex text) holds in
          let sizes = and_parts (nat_lt 0 (length text)) (length text % 2 == 0) tests.0 in
          let pairs = pairs_of text tests.1 (eqb-true (length text % 2) 0 sizes.1) in
          let decoded : decode_of text ≡ Ok pairs.bytes = ap decode_of (sym pairs.encoded) ∙ decode_of-encode_lower pairs.bytes pairs.are in
          let got : Some (result_unwrap_or (decode_of text) []) ≡ Some bytes = rw holds at found in
          let same : pairs.bytes ≡ bytes = sym (ap (λ r. result_unwrap_or r []) decoded) ∙ some_same _ _ got in
          let some : 0 < length text = grind (arith, nat_tests, sizes.0) in
          let len = length-encode_with lower_digits pairs.bytes in
          let counted : length (encode_lower pairs.bytes) ≡ length text = ap length pairs.encoded in
          let several : 0 < length pairs.bytes = omega (arith, len, counted, some) in
          record {
            digits = sym pairs.encoded ∙ ap encode_lower same;
            some = subst (λ b. 0 < length b) same several;
            are = subst IsBytes same pairs.are;
          }
    ]

-- paths
sound_is : (path : List ℕ) → path_fault path ≡ None → sound_path path ≡ Some path
sound_is path sound = rw sound refl

record IsSound (text path : List ℕ) : Type 0 where
  same : text ≡ path
  sound : path_fault path ≡ None

none_is : {A : Type 0} (o : Option A) → is_none o ≡ true → o ≡ None
none_is None none = refl
none_is (Some value) none = absurd (false≢true none)

sound_read : (text path : List ℕ) → sound_path text ≡ Some path → IsSound text path
sound_read text path found =
    elim (cases_Bool (is_none (path_fault text))) [
      | inr fails ↦ let none = rw fails at found in cc
      | inl holds ↦
          let same : text ≡ path = let got = rw holds at found in cc in
          record { same = same; sound = subst (λ t. path_fault t ≡ None) same (none_is (path_fault text) holds) }
    ]

path_read : (text path : List ℕ) → IsPath text path → path_of text ≡ Some path
path_read text path (Bare same bare sound) = ap path_of same ∙ rw bare (sound_is path sound)
path_read text path (Quoted spelled is same sound) =
    let begins : list_all is_bare text ≡ false = ap (λ t. list_all is_bare t) is.stands in
    rw (begins, text_read text spelled is) (ap sound_path (sym same) ∙ sound_is path sound)

path_spelled : (text path : List ℕ) → IsUtf8 text → path_of text ≡ Some path → IsPath text path
path_spelled text path utf8 found =
    elim (cases_Bool (list_all is_bare text)) [
      | inl bare ↦
          let sound = sound_read text path (rw bare at found) in
          Bare sound.same (subst (λ t. list_all is_bare t ≡ true) sound.same bare) sound.sound
      | inr other ↦
          let both = both_give (text_of text) (λ spelled. sound_path (encode_utf8_all spelled)) path (rw other at found) in
          let sound = sound_read (encode_utf8_all both.between) path both.two in
          Quoted both.between (text_spelled text both.between utf8 both.one) (sym sound.same) sound.sound
    ]

-- contents
file_read : (text bytes : List ℕ) → IsFile text bytes → content_of text ≡ Some (Bytes bytes)
file_read text bytes (InQuotes spelled is same) =
    let not_absent : bytes_eq text (codes "absent") ≡ false = ap (λ t. bytes_eq t (codes "absent")) is.stands in
    let not_larger : bytes_eq text (codes "larger") ≡ false = ap (λ t. bytes_eq t (codes "larger")) is.stands in
    let not_hex : starts_with ◌==◌ text (codes "hex ") ≡ false = ap (λ t. starts_with ◌==◌ t (codes "hex ")) is.stands in
    rw (not_absent, not_larger, not_hex, text_read text spelled is) (ap (λ b. Some (Bytes b)) (sym same))
file_read text bytes (InHex digits begins is) = ap content_of begins ∙ rw (hexadecimal_read digits bytes is) refl

content_read : (text : List ℕ) (content : Content) → IsContent text content → content_of text ≡ Some content
content_read text Absent is = ap content_of is
content_read text (Bytes bytes) is = file_read text bytes is
content_read text Larger is = ap content_of is

file_spelled : (text : List ℕ) (content : Content) → IsUtf8 text → file_of text ≡ Some content → IsContent text content
file_spelled text content utf8 found =
    elim (cases_Bool (starts_with ◌==◌ text (codes "hex "))) [
      | inl begins ↦
          let made = made_gives (bytes_of (drop 4 text)) Bytes content (rw begins at found) in
          let front : codes "hex " ≡ take 4 text = (bytes_eq-Decides (codes "hex ") (take 4 text)).0 begins in
          let whole : text ≡ codes "hex " ++ drop 4 text = sym (take-append-drop 4 text) ∙ ap (λ t. t ++ drop 4 text) (sym front) in
          subst (IsContent text) made.two (InHex (drop 4 text) whole (hexadecimal_spelled (drop 4 text) made.from made.one))
      | inr other ↦
          let made = made_gives (text_of text) (λ spelled. Bytes (encode_utf8_all spelled)) content (rw other at found) in
          subst (IsContent text) made.two (InQuotes made.from (text_spelled text made.from utf8 made.one) refl)
    ]

content_spelled : (text : List ℕ) (content : Content) → IsUtf8 text → content_of text ≡ Some content → IsContent text content
content_spelled text content utf8 found =
    elim (cases_Bool (bytes_eq text (codes "absent"))) [
      | inl absent ↦
          let same : Absent ≡ content = let got = rw absent at found in cc in
          subst (IsContent text) same ((bytes_eq-Decides text (codes "absent")).0 absent)
      | inr not_absent ↦
          elim (cases_Bool (bytes_eq text (codes "larger"))) [
            | inl larger ↦
                let same : Larger ≡ content = let got = rw (not_absent, larger) at found in cc in
                subst (IsContent text) same ((bytes_eq-Decides text (codes "larger")).0 larger)
            | inr not_larger ↦ file_spelled text content utf8 (rw (not_absent, not_larger) at found)
          ]
    ]

-- modes and speakers
mode_read : (text : List ℕ) (mode : Mode) → text ≡ mode_word mode → mode_of text ≡ Some mode
mode_read text Lost is = ap mode_of is
mode_read text Kept is = ap mode_of is
mode_read text Torn is = ap mode_of is

mode_spelled : (text : List ℕ) (mode : Mode) → mode_of text ≡ Some mode → text ≡ mode_word mode
mode_spelled text mode found =
    elim (cases_Bool (bytes_eq text (codes "lost"))) [
      | inl lost ↦
          let same : Lost ≡ mode = let got = rw lost at found in cc in
          (bytes_eq-Decides text (codes "lost")).0 lost ∙ ap mode_word same
      | inr not_lost ↦
          elim (cases_Bool (bytes_eq text (codes "kept"))) [
            | inl kept ↦
                let same : Kept ≡ mode = let got = rw (not_lost, kept) at found in cc in
                (bytes_eq-Decides text (codes "kept")).0 kept ∙ ap mode_word same
            | inr not_kept ↦
                elim (cases_Bool (bytes_eq text (codes "torn"))) [
                  | inl torn ↦
                      let same : Torn ≡ mode = let got = rw (not_lost, not_kept, torn) at found in cc in
                      (bytes_eq-Decides text (codes "torn")).0 torn ∙ ap mode_word same
                  | inr not_torn ↦ let none = rw (not_lost, not_kept, not_torn) at found in cc
                ]
          ]
    ]

speaker_read : (text : List ℕ) (speaker : Speaker) → text ≡ speaker_word speaker → speaker_of text ≡ Some speaker
speaker_read text Editor is = ap speaker_of is
speaker_read text Peer is = ap speaker_of is

speaker_spelled : (text : List ℕ) (speaker : Speaker) → speaker_of text ≡ Some speaker → text ≡ speaker_word speaker
speaker_spelled text speaker found =
    elim (cases_Bool (bytes_eq text (codes "editor"))) [
      | inl editor ↦
          let same : Editor ≡ speaker = let got = rw editor at found in cc in
          (bytes_eq-Decides text (codes "editor")).0 editor ∙ ap speaker_word same
      | inr not_editor ↦
          elim (cases_Bool (bytes_eq text (codes "peer"))) [
            | inl peer ↦
                let same : Peer ≡ speaker = let got = rw (not_editor, peer) at found in cc in
                (bytes_eq-Decides text (codes "peer")).0 peer ∙ ap speaker_word same
            | inr not_peer ↦ let none = rw (not_editor, not_peer) at found in cc
          ]
    ]

-- a text that spells an argument is read as it
pub argument_read : (form : Form) (value : Value form) (text : List ℕ) → Spells text (argument form value) → read form text ≡ Some value
argument_read Number n text is = ap number_of is.digits ∙ number_of-decimal n is.small
argument_read Path path text is = path_read text path is
argument_read Text spelled text is = text_read text spelled is
argument_read Contents content text is = content_read text content is
argument_read StopMode mode text is = mode_read text mode is
argument_read Hexadecimal bytes text is = hexadecimal_read text bytes is
argument_read Speaks speaker text is = speaker_read text speaker is

-- a text that is read as an argument spells it
pub argument_spelled : (form : Form) (value : Value form) (text : List ℕ) → IsUtf8 text → read form text ≡ Some value → Spells text (argument form value)
argument_spelled Number n text utf8 found = number_is text n found
argument_spelled Path path text utf8 found = path_spelled text path utf8 found
argument_spelled Text spelled text utf8 found = text_spelled text spelled utf8 found
argument_spelled Contents content text utf8 found = content_spelled text content utf8 found
argument_spelled StopMode mode text utf8 found = mode_spelled text mode found
argument_spelled Hexadecimal bytes text utf8 found = hexadecimal_spelled text bytes found
argument_spelled Speaks speaker text utf8 found = speaker_spelled text speaker found

-- the forms that may stand in front of another argument
abbrev pub may_lead : Form → Bool
may_lead Number = true
may_lead Path = true
may_lead Text = true
may_lead _ = false

bare_unquoted : (b : ℕ) → is_bare b ≡ true → is_unquoted b ≡ true
bare_unquoted b bare = grind (arith, nat_tests)

path_passes : (text path : List ℕ) → IsPath text path → Passes Outside text Outside
path_passes text path (Bare same bare sound) =
    subst (λ t. Passes Outside t Outside) (sym same) (unquoted_passes path (all_implied is_bare is_unquoted bare_unquoted path bare))
path_passes text path (Quoted spelled is same sound) = text_passes text spelled is

pub argument_passes : (form : Form) (value : Value form) (text : List ℕ) → Spells text (argument form value) → may_lead form ≡ true → Passes Outside text Outside
argument_passes Number n text is leads =
    subst (λ t. Passes Outside t Outside) (sym is.digits) (unquoted_passes (decimal n) (decimal_unquoted n is.small))
argument_passes Path path text is leads = path_passes text path is
argument_passes Text spelled text is leads = text_passes text spelled is
argument_passes Contents content text is leads = absurd (false≢true leads)
argument_passes StopMode mode text is leads = absurd (false≢true leads)
argument_passes Hexadecimal bytes text is leads = absurd (false≢true leads)
argument_passes Speaks speaker text is leads = absurd (false≢true leads)

-- what is written for an argument spells it
path_written : (path : List ℕ) → IsShared path → IsPath (path_text path) path
path_written path is =
    elim (cases_Bool (list_all is_bare path)) [
      | inl bare ↦
          let same : path ≡ path_text path = rw bare refl in
          subst (λ t. IsPath t path) same (Bare refl bare is.sound)
      | inr other ↦
          let same : quoted (chars path) ≡ path_text path = rw other refl in
          subst (λ t. IsPath t path) same
          (Quoted (chars path) (text_written (chars path) (scalars-chars path is.utf8)) (sym (encodes-chars path is.utf8)) is.sound)
    ]

no_bytes_utf8 : is_utf8 [] ≡ true
unfolding is_utf8 chars
no_bytes_utf8 = refl

some_bytes : (bytes : List ℕ) → is_utf8 bytes ≡ false → 0 < length bytes
some_bytes [] fails = absurd (false≢true (sym fails ∙ no_bytes_utf8))
some_bytes (b ∷ bytes) fails = omega arith

file_written : (bytes : List ℕ) → IsBytes bytes → IsFile (file_text bytes) bytes
file_written bytes are =
    elim (cases_Bool (is_utf8 bytes)) [
      | inl holds ↦
          let utf8 = IsUtf8-from_is_utf8 bytes holds in
          let same : quoted (chars bytes) ≡ file_text bytes = rw holds refl in
          subst (λ t. IsFile t bytes) same
          (InQuotes (chars bytes) (text_written (chars bytes) (scalars-chars bytes utf8)) (sym (encodes-chars bytes utf8)))
      | inr fails ↦
          let same : codes "hex " ++ encode_lower bytes ≡ file_text bytes = rw fails refl in
          subst (λ t. IsFile t bytes) same
          (InHex (encode_lower bytes) refl (record { digits = refl; some = some_bytes bytes fails; are = are }))
    ]

content_written : (content : Content) → HoldsBytes content → IsContent (content_text content) content
content_written Absent are = refl
content_written (Bytes bytes) are = file_written bytes are
content_written Larger are = refl

pub argument_written : (argument : Argument) → IsWritable argument → Spells (written argument) argument
argument_written (ANumber n) small = record { digits = refl; small = small }
argument_written (APath path) is = path_written path is
argument_written (AText text) scalars = text_written text scalars
argument_written (AContents content) are = content_written content are
argument_written (AStopMode mode) is = refl
argument_written (SomeHex bytes) are = record { digits = refl; some = are.some; are = are.all }
argument_written (Fixed word) is = refl
