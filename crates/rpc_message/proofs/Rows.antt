-- Messages as they compute.
use Rattle.std.proofs.Common.{◌≡◌, [], ◌∷◌, length, map, Some, None, Ok, Err, refl, codes}
use Rattle.std.specs.Fmt.{digits}
use Rattle.serde_json.proofs.OnLiterals.{serde_json_on_literals}
use Rattle.serde_json.specs.Data.{string}
use Rattle.tt_base.specs.declared.edits.TextEdit.{TextEdit}
use Rattle.rpc_message.specs.Codes.{table}
use Rattle.rpc_message.specs.Messages.{message_in}
use Rattle.name_table.specs.Rows.{number_of, word_of}
use Rattle.rpc_message.specs.Methods.{method_named, methods}
use Rattle.rpc_message.specs.Requests.{request}
use Rattle.rpc_message.specs.Values.{object, version}
use Rattle.rpc_message.specs.Written.{written}
use Rattle.rpc_message.specs.declared.faults.Cause.TheVariants as cause
use Rattle.rpc_message.specs.declared.faults.MessageFault.TheVariants as fault
use Rattle.rpc_message.specs.declared.messages.FromEditor.TheVariants as asks
use Rattle.rpc_message.specs.declared.messages.MessageId.TheVariants.{Number, Null}
use Rattle.rpc_message.specs.declared.messages.ToEditor.TheVariants.{Success, Refused, Edit}
use Rattle.rpc_message.specs.declared.methods.Method.TheVariants as method
use Rattle.rpc_message.specs.declared.refusals.Refusal.TheVariants.{ParseError, BadRevision}

pub first_reply : written (Success (Number 1)) ≡ codes "{\"id\":1,\"jsonrpc\":\"2.0\",\"result\":\"success\"}"
unfolding serde_json_on_literals digits
first_reply = refl

pub parse_error : written (Refused Null ParseError) ≡ codes "{\"error\":{\"code\":-32700,\"message\":\"parse error\"},\"id\":null,\"jsonrpc\":\"2.0\"}"
unfolding serde_json_on_literals digits
parse_error = refl

pub bad_revision : written (Refused (Number 2) (BadRevision 0 0 5))
    ≡ codes "{\"error\":{\"code\":-32005,\"data\":{\"confirmed\":0,\"issued\":0,\"seen\":5},\"message\":\"bad revision\"},\"id\":2,\"jsonrpc\":\"2.0\"}"
unfolding serde_json_on_literals digits
bad_revision = refl

abbrev pub typed : TextEdit
typed = record { start = record { line = 0; character = 1 }; end = record { line = 0; character = 1 }; replacement = codes "X" }

-- the daemon's edit of one replacement in the first line
pub edit_has_184_bytes : length (written (Edit (codes "file:///work/f") 1 (typed ∷ []))) ≡ 184
unfolding serde_json_on_literals digits
edit_has_184_bytes = refl

pub edit_has_number_3 : number_of (codes "edit") methods ≡ Some 3
edit_has_number_3 = refl

pub save_has_no_number : number_of (codes "save") methods ≡ None
save_has_no_number = refl

pub no_method_has_number_6 : word_of 6 methods ≡ None
no_method_has_number_6 = refl

pub edit_is_a_method : method_named (codes "edit") ≡ Some method.Edit
edit_is_a_method = refl

pub save_is_none : method_named (codes "save") ≡ None
save_is_none = refl

pub no_object : message_in (Some (object [])) ≡ Err (fault.Refused (Some Null) cause.InvalidRequest)
no_object = refl

pub shutdown_is_read : message_in (Some (request 3 asks.Shutdown)) ≡ Ok (record { id = Some (Number 3); message = asks.Shutdown })
shutdown_is_read = refl

-- a notification of an unknown method has nobody to answer
pub notification_is_not_answered : message_in (Some (object (version ∷ (codes "method", string (codes "save")) ∷ []))) ≡ Err (fault.Refused None cause.UnknownMethod)
notification_is_not_answered = refl

-- the codes, as the protocol has them but for their sign
pub codes_of_the_table : map (λ row. row.0) table
    ≡ 32700 ∷ 32600 ∷ 32601 ∷ 32602 ∷ 32001 ∷ 32002 ∷ 32003 ∷ 32004 ∷ 32005 ∷ 32006 ∷ 32007 ∷ 32008 ∷ []
codes_of_the_table = refl
