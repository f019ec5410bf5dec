-- Which messages can be sent so that an editor reads them back, and which messages a daemon sends for an event.
use Rattle.std.specs.Prelude.{ℕ, ◌^◌, ◌<◌, List, [], ◌++◌, length, Option, if◌then◌else◌}
use Rattle.std.specs.List.{AllByRecursion, flat_map}
use Rattle.file_uri.specs.Base.{BaseView}
use Rattle.rpc_message.specs.Messages.{message_of}
use Rattle.rpc_message.specs.Replies.{IsReply, HasSignedId}
use Rattle.rpc_message.specs.Written.{written}
use Rattle.rpc_message.specs.declared.messages.MessageId.{MessageId}
use Rattle.rpc_message.specs.declared.messages.ToEditor.{ToEditor}
use Rattle.daemon_core.specs.Outcome.{Effect, Outcome}
use Rattle.daemon_core.specs.Outputs.{reply, own_messages, others_messages, id_of, outcome_of}
use Rattle.daemon_core.specs.State.{Links, State, is_number, links_of}
use Rattle.daemon_core.specs.declared.events.Event.{Event}
use Rattle.daemon_core.specs.declared.events.Event.TheVariants.{EditorBegan, Ended, EditorFrame}

-- A message's body is read as that message, and its length is one that a frame can tell. An id in `Below` is meant to be
-- below 0, which its type leaves open.
pub record CanBeSent (message : ToEditor) : Type 0 where
  pub reads : HasSignedId message → IsReply (written message) message
  pub small : length (written message) < 2 ^ 64

abbrev pub EachCanBeSent : List ToEditor → Type 0
EachCanBeSent messages = AllByRecursion CanBeSent messages

-- what a connection is sent of the effects of another's message, as in `told_outputs`
abbrev pub messages_told : BaseView → List Effect → ℕ × Links → List ToEditor
messages_told base effects c = others_messages base effects c.1

-- the same of each but connection n, as in `sent_to_others`
abbrev pub messages_to_others : ℕ → BaseView → List Effect → ℕ × Links → List ToEditor
messages_to_others n base effects c = if is_number n c.0 then [] else messages_told base effects c

-- what the connection of a message itself is sent: the reply, and what else there is
abbrev pub messages_back : State → ℕ → Option MessageId → Outcome → List ToEditor
messages_back s n id o = reply id o.answer ++ own_messages s.base o.own (links_of s n)

-- the messages of an outcome's outputs, in their order
abbrev pub messages_sent : State → ℕ → Option MessageId → Outcome → List ToEditor
messages_sent s n id o = messages_back s n id o ++ flat_map (messages_to_others n s.base o.effects) s.connections

-- the messages that a daemon sends for an event
abbrev pub messages_of : State → Event → List ToEditor
messages_of s (EditorBegan n) = []
messages_of s (Ended n) = []
messages_of s (EditorFrame n body) = messages_sent s n (id_of (message_of body)) (outcome_of s n (message_of body))

-- each of them can be sent
abbrev pub AllCanBeSent : State → Event → Type 0
AllCanBeSent s event = EachCanBeSent (messages_of s event)
