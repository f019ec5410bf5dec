-- The message that a body is, with its id, or the fault, with the id to answer (JSON-RPC 2.0).
use Rattle.std.specs.Prelude.{ℕ, pos, int_lt, Bool, ◌&&◌, ◌||◌, not, false, List, Option, Some, None, Result, Ok, Err, codes, is_some, unwrap_or, option_map, if◌then◌else◌}
use Rattle.std.specs.Str.{bytes_eq}
use Rattle.serde_json.specs.Data as json
use Rattle.serde_json.specs.Data.{Data}
use Rattle.serde_json.specs.Find.{get, as_str, as_object}
use Rattle.rpc_message.specs.Forms.{characters}
use Rattle.rpc_message.specs.Json.{json_of, member, has}
use Rattle.rpc_message.specs.Methods.{method_named}
use Rattle.rpc_message.specs.Params.{called}
use Rattle.rpc_message.specs.Reading.{Reading}
use Rattle.rpc_message.specs.declared.faults.Cause.{Cause}
use Rattle.rpc_message.specs.declared.faults.Cause.TheVariants.{ParseError, InvalidRequest, UnknownMethod, BadParams}
use Rattle.rpc_message.specs.declared.faults.MessageFault.{MessageFault}
use Rattle.rpc_message.specs.declared.faults.MessageFault.TheVariants.{Refused}
use Rattle.rpc_message.specs.declared.messages.FromEditor.{FromEditor}
use Rattle.rpc_message.specs.declared.messages.FromEditor.TheVariants.{Response}
use Rattle.rpc_message.specs.declared.messages.Incoming.{Incoming}
use Rattle.rpc_message.specs.declared.messages.MessageId.{MessageId}
use Rattle.rpc_message.specs.declared.messages.MessageId.TheVariants.{Words, Below, Number, Null}
use Rattle.rpc_message.specs.declared.methods.Method.{Method}

-- a string, a whole number from -2^63 to 2^64 - 1, or null; `serde_json` reads any other number as no
-- whole one, and each that it reads as negative is below 0
abbrev pub id_form : Data → Option MessageId
id_form json.null = Some Null
id_form (json.string s) = option_map Words (characters s)
id_form (json.number (json.unsigned n)) = Some (Number n)
id_form (json.number (json.negative z)) = if int_lt z (pos 0) then Some (Below z) else None
id_form _ = None

-- the id that is read in a value
abbrev pub id_of : Data → Option MessageId
id_of d = member (codes "id") id_form d

-- the id to answer, by the one that was read: null where none was; but a request without an id is a
-- notification, which is never answered
abbrev pub answer_id : Cause → Option MessageId → Option MessageId
answer_id ParseError id = Some (unwrap_or id Null)
answer_id InvalidRequest id = Some (unwrap_or id Null)
answer_id UnknownMethod id = id
answer_id (BadParams member) id = id

-- the string is this one
abbrev pub is_text : List ℕ → Option (List ℕ) → Bool
is_text expected (Some s) = bytes_eq s expected
is_text expected None = false

-- the version of the protocol
abbrev pub has_version : Data → Bool
has_version d = is_text (codes "2.0") (member (codes "jsonrpc") as_str d)

-- the id is missing, or has one of its forms
abbrev pub has_good_id : Data → Bool
has_good_id d = not (has (codes "id") d) || is_some (id_of d)

-- there are an id, and either a result or an error
abbrev pub is_response : Data → Bool
is_response d =
    has (codes "id") d
    && ((has (codes "result") d && not (has (codes "error") d)) || (has (codes "error") d && not (has (codes "result") d)))

-- the method is a string, or is missing in a response
abbrev pub has_good_method : Option Data → Data → Bool
has_good_method (Some method) d = is_some (as_str method)
has_good_method None d = is_response d

-- the value is a request or a response
abbrev pub is_valid : Data → Bool
is_valid d =
    is_some (as_object d) && has_version d && has_good_id d && has_good_method (get (codes "method") d) d

-- the request of a method, if there is such a method
abbrev pub unless_unknown : Option Method → Data → Reading FromEditor
unless_unknown (Some method) d = called method d
unless_unknown None d = Err UnknownMethod

-- by its method; a response has none
abbrev pub by_method : Option (List ℕ) → Data → Reading FromEditor
by_method (Some name) d = unless_unknown (method_named name) d
by_method None d = Ok Response

-- the request or response in a value
abbrev pub request_in : Data → Reading FromEditor
request_in d = if is_valid d then by_method (member (codes "method") as_str d) d else Err InvalidRequest

-- what was read, with the id, or the fault, with the id to answer
abbrev pub with_id : Data → Reading FromEditor → Result Incoming MessageFault
with_id d (Ok message) = Ok (record { id = id_of d; message = message })
with_id d (Err cause) = Err (Refused (answer_id cause (id_of d)) cause)

-- the message that a value is, or the fault; where there is no value, it is no JSON
abbrev pub message_in : Option Data → Result Incoming MessageFault
message_in (Some d) = with_id d (request_in d)
message_in None = Err (Refused (answer_id ParseError None) ParseError)

-- the message that a body is, or the fault
abbrev pub message_of : List ℕ → Result Incoming MessageFault
message_of body = message_in (json_of body)
