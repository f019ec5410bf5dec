-- What a daemon sends, and the daemon's step as a whole: from an event to the next state and the outputs.
use Rattle.std.specs.Prelude.{ℕ, Bool, true, false, not, List, [], ◌∷◌, ◌++◌, map, filter, Option, Result, Ok, Err, if◌then◌else◌}
use Rattle.std.specs.List.{flat_map}
use Rattle.std.specs.BTreeMap.{insert_entry}
use Rattle.std.specs.Ordering.{nat_cmp}
use Rattle.file_uri.specs.Base.{BaseView}
use Rattle.rpc_frame.specs.Written.{frame_bytes}
use Rattle.rpc_message.specs.Messages.{message_of}
use Rattle.rpc_message.specs.Refusing.{refusal_for}
use Rattle.rpc_message.specs.Written.{written}
use Rattle.rpc_message.specs.declared.faults.MessageFault.{MessageFault}
use Rattle.rpc_message.specs.declared.faults.MessageFault.TheVariants as fault
use Rattle.rpc_message.specs.declared.messages.Incoming.{Incoming}
use Rattle.rpc_message.specs.declared.messages.MessageId.{MessageId}
use Rattle.rpc_message.specs.declared.messages.ToEditor.{ToEditor}
use Rattle.daemon_core.specs.Outcome.{Silence, Refuses, Effect}
use Rattle.daemon_core.specs.Outputs.{own_messages, others_messages, reply, id_of}
use Rattle.daemon_core.specs.State.{Links, is_number}
use Rattle.daemon_core.specs.declared.events.Event.{Event}
use Rattle.daemon_core.specs.declared.events.Event.TheVariants.{EditorBegan, Ended, EditorFrame}
use Rattle.daemon_history.specs.Making.{Clash}
use Rattle.daemon_events.specs.Outcome.{Outcome, answers, state_after}
use Rattle.daemon_events.specs.Serving.{on_message, or_refusal}
use Rattle.daemon_events.specs.State.{State, links_of}
use Rattle.daemon_core.specs.declared.events.Notice.TheVariants as notice
use Rattle.daemon_core.specs.declared.events.Output.{Output}
use Rattle.daemon_core.specs.declared.events.Output.TheVariants.{Send, Notice, Shutdown}

-- a message as a frame on a connection
abbrev pub send : ℕ → ToEditor → Output
send n message = Send n (frame_bytes (written message))

-- what a connection is sent of the effects of another's message
abbrev pub told_outputs : BaseView → List Effect → ℕ × Links → List Output
told_outputs base effects c = map (send c.0) (others_messages base effects c.1)

-- the same of each but connection n
abbrev pub sent_to_others : ℕ → BaseView → List Effect → ℕ × Links → List Output
sent_to_others n base effects c = if is_number n c.0 then [] else told_outputs base effects c

-- a person is told of two changes that have one name
abbrev pub told : Clash → Output
told clash = Notice (notice.Clash clash.held clash.given)

-- the daemon is to stop
abbrev pub stop_if : Bool → List Output
stop_if true = Shutdown ∷ []
stop_if false = []

-- The reply, what else the connection of the message is sent, what the others are sent by rising number, the notices, and that the
-- daemon is to stop.
abbrev pub outputs : State → ℕ → Option MessageId → Outcome → List Output
outputs s n id o =
    map (send n) (reply id o.answer ++ own_messages s.base o.own (links_of s n))
    ++ (flat_map (sent_to_others n s.base o.effects) s.connections ++ (map told o.notices ++ stop_if o.shuts_down))

-- the next state, and what is asked for
pub record Served : Type 0 where
  pub state : State
  pub outputs : List Output

-- what one outcome makes of the daemon
abbrev pub served : State → ℕ → Option MessageId → Outcome → Served
served s n id o = record { state = state_after s n o; outputs = outputs s n id o }

-- what a body comes to, read as a message or as a fault; no body is read as want of memory
abbrev pub outcome_of : State → ℕ → Result Incoming MessageFault → Outcome
outcome_of s n (Ok m) = or_refusal s (on_message s n m.message)
outcome_of s n (Err (fault.Refused id cause)) = answers s (Refuses (refusal_for cause))
outcome_of s n (Err fault.Memory) = answers s Silence

-- what it makes of the daemon
abbrev pub heard : State → ℕ → Result Incoming MessageFault → Served
heard s n read = served s n (id_of read) (outcome_of s n read)

-- the daemon's step
abbrev pub serve : State → Event → Served
serve s (EditorBegan n) =
    record { state = record s { connections = insert_entry nat_cmp s.connections n [] }; outputs = [] }
serve s (Ended n) =
    record { state = record s { connections = filter (λ c. not (is_number n c.0)) s.connections }; outputs = [] }
serve s (EditorFrame n body) = heard s n (message_of body)

-- the daemon after a list of events, and all that it has asked for
abbrev pub serves : State → List Event → Served
serves s [] = record { state = s; outputs = [] }
serves s (event ∷ events) =
    let first = serve s event in
    let rest = serves first.state events in record { state = rest.state; outputs = first.outputs ++ rest.outputs }
