-- The value of each message to an editor (JSON-RPC 2.0, sections 4 and 5).
use Rattle.std.specs.Prelude.{ℕ, List, [], ◌∷◌, codes, Option, Some, None}
use Rattle.serde_json.specs.Data as json
use Rattle.serde_json.specs.Data.{Data}
use Rattle.rpc_message.specs.Causes as cause
use Rattle.rpc_message.specs.Codes.{signed_code, message}
use Rattle.rpc_message.specs.Members as member
use Rattle.rpc_message.specs.Methods.{name}
use Rattle.rpc_message.specs.Values.{object, whole, bytes, id, edit_params, version}
use Rattle.rpc_message.specs.declared.messages.ToEditor.{ToEditor}
use Rattle.rpc_message.specs.declared.messages.ToEditor.TheVariants.{Success, Refused, Edit}
use Rattle.rpc_message.specs.declared.methods.Method.TheVariants as method
use Rattle.rpc_message.specs.declared.refusals.Refusal.{Refusal}
use Rattle.rpc_message.specs.declared.refusals.Refusal.TheVariants.{BadParams, BadUri, BadPosition, BadRevision, TextTooLong, Clash, BackwardRange}

-- the data of a refusal, where the table of codes has some
abbrev pub facts : Refusal → Option Data
facts (BadParams m) = Some (object ((codes "member", json.string (member.name m)) ∷ []))
facts (BadUri c) = Some (object ((codes "cause", json.string (cause.name c)) ∷ []))
facts (BadPosition edit) = Some (object ((codes "edit", whole edit) ∷ []))
facts (BadRevision confirmed issued seen) =
    Some (object ((codes "confirmed", whole confirmed) ∷ (codes "issued", whole issued) ∷ (codes "seen", whole seen) ∷ []))
facts (TextTooLong length) = Some (object ((codes "length", whole length) ∷ []))
facts (Clash given held) = Some (object ((codes "given", bytes given) ∷ (codes "held", bytes held) ∷ []))
facts (BackwardRange edit) = Some (object ((codes "edit", whole edit) ∷ []))
facts _ = None

-- the member `data`, where there is some
abbrev pub with_data : Option Data → List (List ℕ × Data) → List (List ℕ × Data)
with_data (Some d) later = (codes "data", d) ∷ later
with_data None later = later

-- the code is below 0
abbrev pub error : Refusal → Data
error refusal =
    object (
    (codes "code", json.number (json.negative (signed_code refusal)))
    ∷ with_data (facts refusal) ((codes "message", json.string (message refusal)) ∷ []))

-- the value of a message to an editor
abbrev pub value : ToEditor → Data
value (Success i) = object ((codes "id", id i) ∷ version ∷ (codes "result", json.string (codes "success")) ∷ [])
value (Refused i refusal) = object ((codes "error", error refusal) ∷ (codes "id", id i) ∷ version ∷ [])
value (Edit uri revision edits) =
    object (version ∷ (codes "method", json.string (name method.Edit)) ∷ (codes "params", edit_params uri revision edits) ∷ [])
