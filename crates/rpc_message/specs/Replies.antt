-- Which bodies are messages to an editor.
use Rattle.std.specs.Prelude.{◌≡◌, ⊤, ℕ, true, List, Option, Some, None}
use Rattle.std.specs.Str.{all_scalars}
use Rattle.std.specs.List.{AllByRecursion}
use Rattle.hex.specs.Hex.{IsBytes}
use Rattle.serde_json.specs.Data.{Data}
use Rattle.tt_base.specs.declared.edits.TextEdit.{TextEdit}
use Rattle.rpc_message.specs.Answers.{value}
use Rattle.rpc_message.specs.Ids.{IsId, IsSigned}
use Rattle.rpc_message.specs.Json.{json_of}
use Rattle.rpc_message.specs.declared.faults.Cause.TheVariants as cause
use Rattle.rpc_message.specs.declared.faults.MessageFault.{MessageFault}
use Rattle.rpc_message.specs.declared.faults.MessageFault.TheVariants as fault
use Rattle.rpc_message.specs.declared.messages.MessageId.TheVariants.{Null}
use Rattle.rpc_message.specs.declared.messages.ToEditor.{ToEditor}
use Rattle.rpc_message.specs.declared.messages.ToEditor.TheVariants.{Success, Refused, Edit}
use Rattle.rpc_message.specs.declared.refusals.Refusal.{Refusal}
use Rattle.rpc_message.specs.declared.refusals.Refusal.TheVariants.{Clash}

-- its replacement is characters
abbrev pub IsEdit : TextEdit → Type 0
IsEdit e = all_scalars e.replacement ≡ true

-- the bytes in it are bytes
abbrev pub IsRefusal : Refusal → Type 0
IsRefusal (Clash given held) = IsBytes given × IsBytes held
IsRefusal _ = ⊤

-- its texts are characters, its bytes are bytes, and a number in `Below` is below 0
abbrev pub IsToEditor : ToEditor → Type 0
IsToEditor (Success i) = IsId i
IsToEditor (Refused i refusal) = IsId i × IsRefusal refusal
IsToEditor (Edit uri revision edits) = AllByRecursion IsEdit edits

-- a number in `Below` is below 0: what a value of the type leaves open of the above
abbrev pub HasSignedId : ToEditor → Type 0
HasSignedId (Success i) = IsSigned i
HasSignedId (Refused i refusal) = IsSigned i
HasSignedId (Edit uri revision edits) = ⊤

-- the body is the message: it has the message's value as JSON
pub record IsReply (body : List ℕ) (message : ToEditor) : Type 0 where
  pub value_is : json_of body ≡ Some (value message)
  pub is_message : IsToEditor message

-- the fault of a body that is no message, by its value
abbrev pub fault_of : Option Data → MessageFault
fault_of (Some d) = fault.Refused (Some Null) cause.InvalidRequest
fault_of None = fault.Refused (Some Null) cause.ParseError
