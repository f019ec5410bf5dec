-- What is written is read as the same, as statements on bytes.
use Rattle.std.specs.Prelude.{◌≡◌, ℕ, Some, Ok}
use Rattle.serde_json.specs.Written.{compact_text}
use Rattle.message_bytes.specs.Fitting.{IsCount, IsRequestFitting, IsAnswerFitting}
use Rattle.rpc_message.specs.Messages.{message_of}
use Rattle.rpc_message.specs.Replies.{IsReply}
use Rattle.rpc_message.specs.Requests.{request}
use Rattle.rpc_message.specs.Written.{written}
use Rattle.rpc_message.specs.declared.messages.FromEditor.{FromEditor}
use Rattle.rpc_message.specs.declared.messages.MessageId.TheVariants.{Number}
use Rattle.rpc_message.specs.declared.messages.ToEditor.{ToEditor}

-- the body of a request is read as that request, with its id
abbrev pub RequestComesBack : Type 0
RequestComesBack =
    (id : ℕ) (asked : FromEditor) → IsCount id → IsRequestFitting asked
    → message_of (compact_text (request id asked)) ≡ Ok (record { id = Some (Number id); message = asked })

-- the bytes of a message to an editor are that message
abbrev pub AnswerComesBack : Type 0
AnswerComesBack = (message : ToEditor) → IsAnswerFitting message → IsReply (written message) message
