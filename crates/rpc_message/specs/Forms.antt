-- The forms that a member of a message may have.
use Rattle.std.specs.Prelude.{ℕ, List, [], ◌∷◌, Option, Some, None, option_and_then, codes, if◌then◌else◌}
use Rattle.std.specs.Str.{chars, is_utf8}
use Rattle.std.specs.Result.{result_ok}
use Rattle.hex.specs.Hex.{decode_of}
use Rattle.serde_json.specs.Data.{Data, Items, no_items, item}
use Rattle.serde_json.specs.Find.{as_str, as_u64, as_number, as_array}
use Rattle.tt_base.specs.declared.edits.Position.{Position}
use Rattle.tt_base.specs.declared.edits.TextEdit.{TextEdit}
use Rattle.tt_base.specs.declared.edits.TextRange.{TextRange}
use Rattle.rpc_message.specs.Json.{member}

-- the next step, if there is a value
infixl 10 ◌>>=◌
abbrev pub ◌>>=◌ : {A B : Type 0} → Option A → (A → Option B) → Option B
(Some x) >>= f = f x
None >>= f = None

-- the characters that the bytes of UTF-8 spell; a string of JSON has others never (RFC 8259, section 8.1)
abbrev pub characters : List ℕ → Option (List ℕ)
characters bytes = if is_utf8 bytes then Some (chars bytes) else None

-- a string, as its characters
abbrev pub text : Data → Option (List ℕ)
text d = option_and_then characters (as_str d)

-- the bytes that pairs of hexadecimal digits are (RFC 4648, section 8)
abbrev pub decoded : List ℕ → Option (List ℕ)
decoded digits = result_ok (decode_of digits)

-- a string of hexadecimal digits, as its bytes
abbrev pub bytes : Data → Option (List ℕ)
bytes d = option_and_then decoded (as_str d)

-- a whole number from 0 below 2 to the 64
abbrev pub whole : Data → Option ℕ
whole d = option_and_then as_u64 (as_number d)

-- `Position`, `Range` and `TextEdit` of the Language Server Protocol 3.17, the last with other names
abbrev pub position : Data → Option Position
position d = do
  line ← member (codes "line") whole d
  character ← member (codes "character") whole d
  Some (record { line = line; character = character })

-- from a start up to an end
abbrev pub range : Data → Option TextRange
range d = do
  start ← member (codes "start") position d
  end ← member (codes "end") position d
  Some (record { start = start; end = end })

-- a range and what replaces it
abbrev pub edit : Data → Option TextEdit
edit d = do
  range ← member (codes "range") range d
  replacement ← member (codes "replacement") text d
  Some (record { start = range.start; end = range.end; replacement = replacement })

-- all of the items, each of the form
abbrev pub items : {T : Type 0} → (Data → Option T) → Items → Option (List T)
items form no_items = Some []
items form (item d ds) = do
  first ← form d
  rest ← items form ds
  Some (first ∷ rest)

-- an array of items of the form
abbrev pub array : {T : Type 0} → (Data → Option T) → Data → Option (List T)
array form d = option_and_then (items form) (as_array d)
