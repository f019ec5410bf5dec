-- Which messages a daemon sends for an event.
use Rattle.std.specs.Prelude.{ℕ, List, [], ◌++◌, Option}
use Rattle.std.specs.List.{flat_map}
use Rattle.rpc_message.specs.Messages.{message_of}
use Rattle.rpc_message.specs.declared.messages.MessageId.{MessageId}
use Rattle.rpc_message.specs.declared.messages.ToEditor.{ToEditor}
use Rattle.daemon_core.specs.Outputs.{reply, own_messages, id_of}
use Rattle.daemon_core.specs.Sending.{EachCanBeSent, messages_to_others}
use Rattle.daemon_core.specs.declared.events.Event.{Event}
use Rattle.daemon_core.specs.declared.events.Event.TheVariants.{EditorBegan, Ended, EditorFrame}
use Rattle.daemon_events.specs.Outcome.{Outcome}
use Rattle.daemon_events.specs.Outputs.{outcome_of}
use Rattle.daemon_events.specs.State.{State, links_of}

-- the messages of an outcome's outputs, in their order: to the connection of the message itself, and then to the others
abbrev pub messages_sent : State → ℕ → Option MessageId → Outcome → List ToEditor
messages_sent s n id o =
    (reply id o.answer ++ own_messages s.base o.own (links_of s n))
    ++ flat_map (messages_to_others n s.base o.effects) s.connections

-- the messages that a daemon sends for an event
abbrev pub messages_of : State → Event → List ToEditor
messages_of s (EditorBegan n) = []
messages_of s (Ended n) = []
messages_of s (EditorFrame n body) = messages_sent s n (id_of (message_of body)) (outcome_of s n (message_of body))

-- an editor reads each of them back
abbrev pub AllCanBeSent : State → Event → Type 0
AllCanBeSent s event = EachCanBeSent (messages_of s event)
