-- The bytes of each message to an editor: compact JSON, the members in rising order of their names.
use Rattle.std.specs.Prelude.{ℕ, List, [], ◌∷◌, ◌++◌, codes, decimal, map, encode_utf8_all, Option, Some, None}
use Rattle.std.specs.Fmt.{signed_decimal}
use Rattle.std.specs.List.{concat}
use Rattle.hex.specs.Hex.{encode_lower}
use Rattle.json.specs.Print.{quoted}
use Rattle.tt_base.specs.declared.edits.Position.{Position}
use Rattle.tt_base.specs.declared.edits.TextEdit.{TextEdit}
use Rattle.rpc_message.specs.Causes as cause
use Rattle.rpc_message.specs.Codes.{code, message}
use Rattle.rpc_message.specs.Members as member
use Rattle.rpc_message.specs.declared.messages.MessageId.{MessageId}
use Rattle.rpc_message.specs.declared.messages.MessageId.TheVariants.{Words, Below, Number, Null}
use Rattle.rpc_message.specs.declared.messages.ToEditor.{ToEditor}
use Rattle.rpc_message.specs.declared.messages.ToEditor.TheVariants.{Success, Refused, Edit}
use Rattle.rpc_message.specs.declared.refusals.Refusal.{Refusal}
use Rattle.rpc_message.specs.declared.refusals.Refusal.TheVariants.{BadParams, BadUri, BadPosition, BadRevision, TextTooLong, Clash, BackwardRange}

-- what is left of an array behind an item
abbrev pub later_items : List (List ℕ) → List ℕ
later_items [] = codes "]"
later_items (x ∷ xs) = concat (codes "," ∷ x ∷ later_items xs ∷ [])

-- the items in brackets, with a comma between two
abbrev pub array : List (List ℕ) → List ℕ
array [] = codes "[]"
array (x ∷ xs) = concat (codes "[" ∷ x ∷ later_items xs ∷ [])

-- a text in quotes, as UTF-8 in which `"`, `\` and the bytes below 32 are escaped
abbrev pub text : List ℕ → List ℕ
text characters = quoted (encode_utf8_all characters)

-- an id
abbrev pub id : MessageId → List ℕ
id (Words characters) = text characters
id (Below z) = signed_decimal z
id (Number n) = decimal n
id Null = codes "null"

-- a position
abbrev pub position : Position → List ℕ
position p = concat (codes "{\"character\":" ∷ decimal p.character ∷ codes ",\"line\":" ∷ decimal p.line ∷ codes "}" ∷ [])

-- the range from a start up to an end
abbrev pub span : Position → Position → List ℕ
span start end = concat (codes "{\"end\":" ∷ position end ∷ codes ",\"start\":" ∷ position start ∷ codes "}" ∷ [])

-- an edit
abbrev pub edit : TextEdit → List ℕ
edit e = concat (codes "{\"range\":" ∷ span e.start e.end ∷ codes ",\"replacement\":" ∷ text e.replacement ∷ codes "}" ∷ [])

-- the parameters of an edit
abbrev pub edit_params : List ℕ → ℕ → List TextEdit → List ℕ
edit_params uri revision edits =
    concat (
    codes "{\"delta\":" ∷ array (map edit edits) ∷ codes ",\"revision\":" ∷ decimal revision
    ∷ codes ",\"uri\":" ∷ quoted uri ∷ codes "}" ∷ [])

-- the data of a refusal, where the table of codes has some
abbrev pub facts : Refusal → Option (List ℕ)
facts (BadParams m) = Some (concat (codes "{\"member\":" ∷ quoted (member.name m) ∷ codes "}" ∷ []))
facts (BadUri c) = Some (concat (codes "{\"cause\":" ∷ quoted (cause.name c) ∷ codes "}" ∷ []))
facts (BadPosition edit) = Some (concat (codes "{\"edit\":" ∷ decimal edit ∷ codes "}" ∷ []))
facts (BadRevision confirmed issued seen) =
    Some (
    concat (
    codes "{\"confirmed\":" ∷ decimal confirmed ∷ codes ",\"issued\":" ∷ decimal issued
    ∷ codes ",\"seen\":" ∷ decimal seen ∷ codes "}" ∷ []))
facts (TextTooLong length) = Some (concat (codes "{\"length\":" ∷ decimal length ∷ codes "}" ∷ []))
facts (Clash given held) =
    Some (
    concat (
    codes "{\"given\":" ∷ quoted (encode_lower given) ∷ codes ",\"held\":" ∷ quoted (encode_lower held)
    ∷ codes "}" ∷ []))
facts (BackwardRange edit) = Some (concat (codes "{\"edit\":" ∷ decimal edit ∷ codes "}" ∷ []))
facts _ = None

-- the member `data`, where there is some
abbrev pub with_data : Option (List ℕ) → List (List ℕ)
with_data (Some d) = codes ",\"data\":" ∷ d ∷ []
with_data None = []

-- the error of a refusal
abbrev pub error : Refusal → List ℕ
error refusal =
    concat (
    codes "{\"code\":-" ∷ decimal (code refusal) ∷ with_data (facts refusal)
    ++ codes ",\"message\":" ∷ quoted (message refusal) ∷ codes "}" ∷ [])

-- the bytes of a message to an editor
abbrev pub written : ToEditor → List ℕ
written (Success i) = concat (codes "{\"id\":" ∷ id i ∷ codes ",\"jsonrpc\":\"2.0\",\"result\":\"success\"}" ∷ [])
written (Refused i refusal) =
    concat (codes "{\"error\":" ∷ error refusal ∷ codes ",\"id\":" ∷ id i ∷ codes ",\"jsonrpc\":\"2.0\"}" ∷ [])
written (Edit uri revision edits) =
    concat (
    codes "{\"jsonrpc\":\"2.0\",\"method\":\"edit\",\"params\":" ∷ edit_params uri revision edits ∷ codes "}" ∷ [])
