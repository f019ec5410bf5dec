-- What ties an editor that a program keeps to one of the machine with counts: the ids of requests tell their sessions, and
-- a frame says what its mark and its delta say.
use Rattle.std.specs.Prelude.{◌≡◌, ◌⊎◌, ℕ, ◌<◌, ◌≤◌, List, [], ◌∷◌, map, Some, Ok}
use Rattle.delta.specs.Cells.{Cells, applied, IsNormal}
use Rattle.text_position.specs.Changes.{edits_of}
use Rattle.text_position.specs.Edits.{delta_of_edits}
use Rattle.tt_base.specs.declared.edits.TextEdit.{TextEdit}
use Rattle.bridge_world.specs.Plain.{State, Kind, Cause, Opening, Open, Closed, OpenDone, Done, Failed, New, Old}
use Rattle.bridge_world.specs.Counted as N
use Rattle.bridge_world.specs.Counted.{base_of, Held}
use Rattle.bridge_world.specs.Lists.{Each}
use Rattle.bridge_world.specs.Tie.{Stand, Place, place, after}
use Rattle.rpc_frame.specs.Written.{frame_bytes}
use Rattle.rpc_message.specs.Messages.{message_of}
use Rattle.rpc_message.specs.Written.{written}
use Rattle.rpc_message.specs.declared.messages.FromEditor.{FromEditor}
use Rattle.rpc_message.specs.declared.messages.FromEditor.TheVariants as asks
use Rattle.rpc_message.specs.declared.messages.MessageId.TheVariants.{Number}
use Rattle.rpc_message.specs.declared.messages.ToEditor.{ToEditor}
use Rattle.rpc_message.specs.declared.messages.ToEditor.TheVariants.{Success, Refused, Edit}
use Rattle.rpc_message.specs.declared.refusals.Refusal.{Refusal}
use Rattle.daemon_core.specs.Sending.{CanBeSent}
use Rattle.editor_client.specs.declared.states.ClientState.{ClientState}
use Rattle.editor_client.specs.declared.states.ClientState.TheVariants as client_state
use Rattle.plain_world.specs.Handling.{cause_of}
use Rattle.frame_world.specs.Seats.{Seat}

-- a client's state
abbrev pub state_of : ClientState → State
state_of client_state.Opening = Opening
state_of client_state.Open = Open
state_of client_state.Closed = Closed

-- the id of the last open, the requests sent, and the session
pub record Ids : Type 0 where
  pub opening : ℕ
  pub requests : ℕ
  pub session : ℕ

-- A request of a session has an id: where the session is the present one, this holds of the id, and else the id is older
-- than the last open.
pub record IsOf (ids : Ids) (session id : ℕ) (Present : Type 0) : Type 0 where
  pub sent : id ≤ ids.requests
  pub place : ((session ≡ ids.session) × Present) ⊎ ((session < ids.session) × (id < ids.opening))

-- What is under way to the daemon.

-- an edit is read as a delta on the text that the link then has come to, if it is still there
abbrev pub ReadsAs : Cells → List TextEdit → Place → Type 0
ReadsAs p edits a = (there : Stand) → a.stand ≡ Some there → delta_of_edits there.text edits ≡ Ok p

-- what a message asks, with the id that it has, where the link has come to a place
abbrev pub Asks : List ℕ → Ids → N.Message → ℕ → ℕ → Place → FromEditor → Type 0
Asks uri ids (N.Opens content) session id a asked = (asked ≡ asks.Open uri content) × IsOf ids session id (id ≡ ids.opening)
Asks uri ids (N.Edits seen p) session id a asked =
    (edits : List TextEdit)
    × ((asked ≡ asks.Edit uri seen edits) × (IsNormal p × (ReadsAs p edits a × IsOf ids session id (ids.opening < id))))
Asks uri ids N.Closes session id a asked = (asked ≡ asks.Close uri) × IsOf ids session id (ids.opening < id)

-- a body is that message
pub record IsBody (uri : List ℕ) (ids : Ids) (a : Place) (m : N.Sent) (body : List ℕ) : Type 0 where
  pub id : ℕ
  pub asked : FromEditor
  pub read : message_of body ≡ Ok (record { id = Some (Number id); message = asked })
  pub says : Asks uri ids m.message m.session id a asked

-- bodies are these messages, the first at a place and each at the one that those before lead to
abbrev pub AreBodies : List ℕ → Ids → Place → List N.Sent → List (List ℕ) → Type 0
AreBodies uri ids a [] [] = Unit {0}
AreBodies uri ids a (m ∷ sent) (body ∷ up) = IsBody uri ids a m body × AreBodies uri ids (after m a) sent up
AreBodies uri ids a [] (body ∷ up) = ⊥
AreBodies uri ids a (m ∷ sent) [] = ⊥

-- What is under way to the editor.

-- a message as a frame
abbrev pub frame_of : ToEditor → List ℕ
frame_of message = frame_bytes (written message)

-- an error tells a cause
pub record Tells (cause : Cause) (id : ℕ) (message : ToEditor) : Type 0 where
  pub refusal : Refusal
  pub is : message ≡ Refused (Number id) refusal
  pub told : cause_of refusal ≡ cause

-- what a mark of a session says, with the revision of its frame
abbrev pub Says : List ℕ → Ids → Kind → ℕ → ℕ → ToEditor → Type 0
Says uri ids OpenDone session revision message =
    (id : ℕ) × ((message ≡ Success (Number id)) × IsOf ids session id (id ≡ ids.opening))
Says uri ids Done session revision message =
    (id : ℕ) × ((message ≡ Success (Number id)) × IsOf ids session id (ids.opening < id))
Says uri ids (Failed cause) session revision message =
    (id : ℕ) × (Tells cause id message × IsOf ids session id (ids.opening ≤ id))
Says uri ids New session revision message = (edits : List TextEdit) × (message ≡ Edit uri revision edits)
Says uri ids Old session revision message = (edits : List TextEdit) × (message ≡ Edit uri revision edits)

-- messages are these frames
abbrev pub AreSaid : List ℕ → Ids → List N.Frame → List ToEditor → Type 0
AreSaid uri ids [] [] = Unit {0}
AreSaid uri ids (f ∷ wire) (m ∷ messages) =
    Says uri ids f.mark.kind f.mark.session f.revision m × AreSaid uri ids wire messages
AreSaid uri ids [] (m ∷ messages) = ⊥
AreSaid uri ids (f ∷ wire) [] = ⊥

-- a message is a delta written on a text
pub record IsWritten (uri text : List ℕ) (revision : ℕ) (d : Cells) (message : ToEditor) : Type 0 where
  pub is : message ≡ Edit uri revision (edits_of text d)
  pub normal : IsNormal d

-- the text behind a frame, and that what is to be shown is written on the text before
abbrev pub text_behind : Kind → Cells → List ℕ → List ℕ
text_behind New d text = applied d text
text_behind kind d text = text

abbrev pub WrittenIfNew : Kind → List ℕ → List ℕ → ℕ → Cells → ToEditor → Type 0
WrittenIfNew New uri text revision d message = IsWritten uri text revision d message
WrittenIfNew kind uri text revision d message = Unit {0}

-- each of what is to be shown is written on the text that those before it leave
abbrev pub AreWritten : List ℕ → List ℕ → List N.Frame → List ToEditor → Type 0
AreWritten uri text [] [] = Unit {0}
AreWritten uri text (f ∷ wire) (m ∷ messages) =
    WrittenIfNew f.mark.kind uri text f.revision f.delta m
    × AreWritten uri (text_behind f.mark.kind f.delta text) wire messages
AreWritten uri text [] (m ∷ messages) = ⊥
AreWritten uri text (f ∷ wire) [] = ⊥

-- The tie, beside `Good`, with the messages whose frames are under way to the editor.
pub record IsTiedWith (messages : List ToEditor) (uri : List ℕ) (x : Seat) (e : N.Editor) : Type 0 where
  pub uri_is : x.client.uri ≡ uri
  pub text : x.client.text ≡ e.text
  pub state : state_of x.client.state ≡ e.state
  pub own : x.client.own ≡ e.own
  pub shown : x.client.shown ≡ e.shown
  -- the id of the last open
  pub opening : ℕ
  pub last_open : x.client.last_open ≡ Some opening
  pub within : opening ≤ x.client.requests
  -- the session of the last open that the daemon has handled
  pub low : ℕ
  pub up : AreBodies uri (record { opening = opening; requests = x.client.requests; session = e.session }) (place low e.link) e.sent x.up
  pub frames : x.down ≡ map frame_of messages
  pub sent : Each CanBeSent messages
  pub down : AreSaid uri (record { opening = opening; requests = x.client.requests; session = e.session }) e.wire messages
  -- where nothing is under way to the daemon
  pub written : e.sent ≡ [] → (h : Held) → e.link ≡ Some h → AreWritten uri (base_of h) e.wire messages

pub record IsTied (uri : List ℕ) (x : Seat) (e : N.Editor) : Type 0 where
  pub messages : List ToEditor
  pub tied : IsTiedWith messages uri x e
