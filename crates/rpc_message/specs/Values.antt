-- The parts of messages as JSON values.
use Rattle.std.specs.Prelude.{ℕ, List, [], ◌∷◌, map, codes, encode_utf8_all}
use Rattle.hex.specs.Hex.{encode_lower}
use Rattle.serde_json.specs.Data as json
use Rattle.serde_json.specs.Data.{Data, Members, no_members, Items, no_items}
use Rattle.serde_json.specs.Find.{of_integer}
use Rattle.tt_base.specs.declared.edits.Position.{Position}
use Rattle.tt_base.specs.declared.edits.TextEdit.{TextEdit}
use Rattle.tt_base.specs.declared.edits.TextRange.{TextRange}
use Rattle.rpc_message.specs.declared.messages.MessageId.{MessageId}
use Rattle.rpc_message.specs.declared.messages.MessageId.TheVariants.{Words, Below, Number, Null}

-- members from a list of names and values
abbrev pub members_of : List (List ℕ × Data) → Members
members_of [] = no_members
members_of (m ∷ ms) = json.member m.0 m.1 (members_of ms)

-- the object with these members, which stand in rising order of their names
abbrev pub object : List (List ℕ × Data) → Data
object members = json.object (members_of members)

-- items from a list of values
abbrev pub items_of : List Data → Items
items_of [] = no_items
items_of (d ∷ ds) = json.item d (items_of ds)

-- the array of these items
abbrev pub array : List Data → Data
array items = json.array (items_of items)

-- a whole number from 0
abbrev pub whole : ℕ → Data
whole n = json.number (json.unsigned n)

-- a text is a string of UTF-8
abbrev pub text : List ℕ → Data
text characters = json.string (encode_utf8_all characters)

-- bytes are a string of two hexadecimal digits each (RFC 4648, section 8), of lower case
abbrev pub bytes : List ℕ → Data
bytes bs = json.string (encode_lower bs)

-- an id
abbrev pub id : MessageId → Data
id (Words characters) = text characters
id (Below z) = json.number (of_integer z)
id (Number n) = whole n
id Null = json.null

-- a position
abbrev pub position : Position → Data
position p = object ((codes "character", whole p.character) ∷ (codes "line", whole p.line) ∷ [])

-- the range from a start up to an end
abbrev pub span : Position → Position → Data
span start end = object ((codes "end", position end) ∷ (codes "start", position start) ∷ [])

-- a range
abbrev pub range : TextRange → Data
range r = span r.start r.end

-- an edit
abbrev pub edit : TextEdit → Data
edit e = object ((codes "range", span e.start e.end) ∷ (codes "replacement", text e.replacement) ∷ [])

-- the parameters of an edit, of the editor or of the daemon
abbrev pub edit_params : List ℕ → ℕ → List TextEdit → Data
edit_params uri revision edits =
    object ((codes "delta", array (map edit edits)) ∷ (codes "revision", whole revision) ∷ (codes "uri", json.string uri) ∷ [])

-- which protocol it is
abbrev pub version : List ℕ × Data
version = (codes "jsonrpc", json.string (codes "2.0"))
