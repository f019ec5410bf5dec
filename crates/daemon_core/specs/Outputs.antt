-- What a daemon sends, and the daemon's step as a whole: from an event to the next state and the outputs.
use Rattle.std.specs.Prelude.{ℕ, Bool, true, false, not, List, [], ◌∷◌, ◌++◌, map, filter, Option, Some, None, Result, Ok, Err, if◌then◌else◌}
use Rattle.std.specs.List.{flat_map}
use Rattle.std.specs.BTreeMap.{insert_entry}
use Rattle.std.specs.Ordering.{nat_cmp}
use Rattle.delta.specs.Cells.{Cells, applied}
use Rattle.editor_bridge.specs.Link.{Link, daemon_text, with_edit}
use Rattle.file_uri.specs.Base.{BaseView}
use Rattle.file_uri.specs.UriOf.{uri_of}
use Rattle.rpc_frame.specs.Written.{frame_bytes}
use Rattle.rpc_message.specs.Messages.{message_of}
use Rattle.rpc_message.specs.Refusing.{refusal_for}
use Rattle.rpc_message.specs.Written.{written}
use Rattle.rpc_message.specs.declared.faults.MessageFault.{MessageFault}
use Rattle.rpc_message.specs.declared.faults.MessageFault.TheVariants as fault
use Rattle.rpc_message.specs.declared.messages.Incoming.{Incoming}
use Rattle.rpc_message.specs.declared.messages.MessageId.{MessageId}
use Rattle.rpc_message.specs.declared.messages.ToEditor.{ToEditor}
use Rattle.rpc_message.specs.declared.messages.ToEditor.TheVariants.{Refused, Edit}
use Rattle.rpc_message.specs.declared.messages.ToEditor.TheVariants as to_editor
use Rattle.text_position.specs.Changes.{edits_of}
use Rattle.daemon_core.specs.Outcome.{Answer, Silence, Success, Refuses, LinkEvent, Stays, Opened, Taken, Gone, Effect, Outcome, answers, opened_link, told_links, state_after}
use Rattle.daemon_core.specs.Serving.{on_message, or_refusal}
use Rattle.daemon_core.specs.State.{Links, State, is_number, link_at, links_of}
use Rattle.daemon_core.specs.declared.events.Event.{Event}
use Rattle.daemon_core.specs.declared.events.Event.TheVariants.{EditorBegan, Ended, EditorFrame}
use Rattle.daemon_core.specs.declared.events.Output.{Output}
use Rattle.daemon_core.specs.declared.events.Output.TheVariants.{Send, Shutdown}

-- Deltas are sent as one message each. Each is written for the text that those before it leave.
abbrev pub edit_messages : List ℕ → ℕ → List ℕ → List Cells → List ToEditor
edit_messages uri revision text [] = []
edit_messages uri revision text (d ∷ deltas) =
    Edit uri revision (edits_of text d) ∷ edit_messages uri revision (applied d text) deltas

-- all that a link has not had confirmed, as messages with the link's revision
abbrev pub whole_queue : List ℕ → Link → List ToEditor
whole_queue uri link = edit_messages uri link.taken link.base link.unconfirmed

-- what the link to a file, if it is there, is sent
abbrev pub of_link : Option Link → (Link → List ToEditor) → List ToEditor
of_link (Some link) messages = messages link
of_link None messages = []

-- The connection of the message itself is sent the first deltas of a file that it has opened, and behind an edit all that
-- the edit had not shown, again.
abbrev pub own_messages : BaseView → LinkEvent → Links → List ToEditor
own_messages base Stays links = []
own_messages base (Opened path content first) links = whole_queue (uri_of base path) (opened_link content first)
own_messages base (Taken path seen edit) links =
    of_link (link_at links path) (λ link. whole_queue (uri_of base path) (with_edit seen edit link))
own_messages base (Gone path) links = []

-- the link to a file that an effect changes is sent it, written for the daemon's text before
abbrev pub told_messages : BaseView → Effect → Link → List ToEditor
told_messages base effect link =
    edit_messages (uri_of base effect.path) link.taken (daemon_text link) (effect.delta ∷ [])

-- another connection is sent the effects in turn
abbrev pub others_messages : BaseView → List Effect → Links → List ToEditor
others_messages base [] links = []
others_messages base (effect ∷ effects) links =
    of_link (link_at links effect.path) (told_messages base effect)
    ++ others_messages base effects (told_links (effect ∷ []) links)

-- a message as a frame on a connection
abbrev pub send : ℕ → ToEditor → Output
send n message = Send n (frame_bytes (written message))

-- what a connection is sent of the effects of another's message
abbrev pub told_outputs : BaseView → List Effect → ℕ × Links → List Output
told_outputs base effects c = map (send c.0) (others_messages base effects c.1)

-- the same of each but connection n
abbrev pub sent_to_others : ℕ → BaseView → List Effect → ℕ × Links → List Output
sent_to_others n base effects c = if is_number n c.0 then [] else told_outputs base effects c

-- the reply; a message without an id, and a response, have none
abbrev pub reply : Option MessageId → Answer → List ToEditor
reply None answer = []
reply (Some id) Silence = []
reply (Some id) Success = to_editor.Success id ∷ []
reply (Some id) (Refuses refusal) = Refused id refusal ∷ []

-- the daemon is to stop
abbrev pub stop_if : Bool → List Output
stop_if true = Shutdown ∷ []
stop_if false = []

-- The reply, what else the connection of the message is sent, what the others are sent by rising number, and that the daemon
-- is to stop.
abbrev pub outputs : State → ℕ → Option MessageId → Outcome → List Output
outputs s n id o =
    map (send n) (reply id o.answer ++ own_messages s.base o.own (links_of s n))
    ++ (flat_map (sent_to_others n s.base o.effects) s.connections ++ stop_if o.shuts_down)

-- the next state, and what is sent
pub record Served : Type 0 where
  pub state : State
  pub outputs : List Output

-- what an outcome makes of the daemon
abbrev pub served : State → ℕ → Option MessageId → Outcome → Served
served s n id o = record { state = state_after s n o; outputs = outputs s n id o }

-- what a body comes to, read as a message or as a fault; no body is read as want of memory
abbrev pub outcome_of : State → ℕ → Result Incoming MessageFault → Outcome
outcome_of s n (Ok m) = or_refusal s (on_message s n m.message)
outcome_of s n (Err (fault.Refused id cause)) = answers s (Refuses (refusal_for cause))
outcome_of s n (Err fault.Memory) = answers s Silence

-- the id that is answered
abbrev pub id_of : Result Incoming MessageFault → Option MessageId
id_of (Ok m) = m.id
id_of (Err (fault.Refused id cause)) = id
id_of (Err fault.Memory) = None

-- what it makes of the daemon
abbrev pub heard : State → ℕ → Result Incoming MessageFault → Served
heard s n read = served s n (id_of read) (outcome_of s n read)

-- the daemon's step
abbrev pub serve : State → Event → Served
serve s (EditorBegan n) =
    record { state = record s { connections = insert_entry nat_cmp s.connections n [] }; outputs = [] }
serve s (Ended n) =
    record { state = record s { connections = filter (λ c. not (is_number n c.0)) s.connections }; outputs = [] }
serve s (EditorFrame n body) = heard s n (message_of body)
