-- What holds of each editor that a program keeps, step by step, as statements.
use Rattle.std.specs.Prelude.{◌≡◌, ℕ, ◌+◌, ◌≤◌, List, [], ◌∷◌, length, Option, None, Result, Ok, true, false}
use Rattle.std.specs.Str.{IsUtf8, all_scalars}
use Rattle.file_uri.specs.Base.{BaseView, IsBase}
use Rattle.file_uri.specs.PathOf.{path_of}
use Rattle.file_uri.specs.UriOf.{uri_of}
use Rattle.tt_base.specs.Path.{path_fault}
use Rattle.text_position.specs.Changes.{Change, edit_for}
use Rattle.text_position.specs.Edits.{delta_of_edits}
use Rattle.bridge_world.specs.Counted as N
use Rattle.bridge_world.specs.Lists.{Each}
use Rattle.bridge_world.specs.Room.{new_counted}
use Rattle.bridge_world.specs.Tie.{Good}
use Rattle.daemon_core.specs.History.{text_at}
use Rattle.daemon_core.specs.Outcome.{Outcome}
use Rattle.daemon_core.specs.Outputs.{others_messages, outcome_of}
use Rattle.daemon_core.specs.Sending.{CanBeSent}
use Rattle.daemon_core.specs.State.{State, is_number}
use Rattle.plain_world.specs.Lines.{first_line}
use Rattle.message_bytes.specs.Fitting.{IsCount}
use Rattle.rpc_message.specs.declared.faults.MessageFault.{MessageFault}
use Rattle.rpc_message.specs.declared.messages.FromEditor.{FromEditor}
use Rattle.rpc_message.specs.declared.messages.Incoming.{Incoming}
use Rattle.rpc_message.specs.declared.messages.MessageId.{MessageId}
use Rattle.editor_client.specs.Editor.{Editor, new_editor, delta_of, is_closed}
use Rattle.editor_client.specs.Requests.{open_request, close_request, edit_request, body_of, IsNextRequest}
use Rattle.editor_client.specs.declared.notes.HeardNote.{HeardNote}
use Rattle.frame_world.specs.Lines.{note_line}
use Rattle.frame_world.specs.Seats.{Seat, opened, closed, typed, lost, IsDelivered}
use Rattle.frame_world.specs.Serving.{IsAt, answer_messages, HandlesAlike, IsOneChange, TellsAlike, Connections}
use Rattle.frame_world.specs.Tie.{IsTied}

-- What the daemon reads.

-- a client of the file at a shared path: what it has is characters, and its counts fit in 64 bits
pub record IsClientOf (base : BaseView) (path : List ℕ) (c : Editor) : Type 0 where
  pub base_is : IsBase base
  pub utf8 : IsUtf8 path
  pub fine : path_fault path ≡ None
  pub uri : c.uri ≡ uri_of base path
  pub uri_utf8 : IsUtf8 c.uri
  pub characters : all_scalars c.text ≡ true
  pub length_fits : IsCount (length c.text)
  pub id_fits : IsCount (c.requests + 1)
  pub shown_fits : IsCount c.shown

-- a change of its text
pub record IsChangeOf (c : Editor) (change : Change) : Type 0 where
  pub forward : change.start ≤ change.end
  pub within : change.end ≤ length c.text
  pub characters : all_scalars change.text ≡ true

-- what a client sends for an open or a close is read as that request, with its id, and its URI names the path
pub record AreAsked (base : BaseView) (path : List ℕ) (c : Editor) : Type 0 where
  pub path_is : path_of base c.uri ≡ Ok path
  pub opening : IsNextRequest c (open_request c) (body_of (open_request c) c)
  pub closing : IsNextRequest c (close_request c) (body_of (close_request c) c)

-- what it sends for a change is read so too, and the edit is the change
pub record IsTold (c : Editor) (change : Change) : Type 0 where
  pub edit : IsNextRequest c (edit_request change c) (body_of (edit_request change c) c)
  pub delta : delta_of_edits c.text (edit_for c.text change ∷ []) ≡ Ok (delta_of change c.text)

abbrev pub RequestsAreRead : Type 0
RequestsAreRead = (base : BaseView) (path : List ℕ) (c : Editor) → IsClientOf base path c → AreAsked base path c

abbrev pub ChangesAreRead : Type 0
ChangesAreRead =
    (base : BaseView) (path : List ℕ) (c : Editor) (change : Change) → IsClientOf base path c → IsChangeOf c change → IsTold c change

-- What an editor does itself: it is still tied to what it is in the machine with counts, where what it sends for that is read as
-- what it asks.

-- the body of a client's next request is read as that request, with its id
abbrev pub IsReadBack : Editor → FromEditor → Type 0
IsReadBack c asked = IsNextRequest c asked (body_of asked c)

-- what a client sends for a change, where it has not closed its text, is read as the change
abbrev pub TellsOf : Editor → Change → Type 0
TellsOf c change = is_closed c.state ≡ false → IsTold c change

pub record OwnSteps (uri view : List ℕ) : Type 0 where
  pub begins : (text : List ℕ) → IsReadBack (new_editor uri text) (open_request (new_editor uri text))
      → IsTied uri (opened (record { client = new_editor uri text; up = []; down = [] })) (N.opened (new_counted text))
  pub types : (change : Change) (x : Seat) (e : N.Editor) → TellsOf x.client change → Good view e → IsTied uri x e
      → IsTied uri (typed change x) (N.typed (delta_of change x.client.text) e)
  pub opens : (x : Seat) (e : N.Editor) → IsReadBack x.client (open_request x.client) → IsTied uri x e → IsTied uri (opened x) (N.opened e)
  pub closes : (x : Seat) (e : N.Editor) → IsReadBack x.client (close_request x.client) → IsTied uri x e → IsTied uri (closed x) (N.closed e)
  pub loses : (x : Seat) (e : N.Editor) → IsTied uri x e → IsTied uri (lost x) (N.lost e)

abbrev pub OwnStepsAreAlike : Type 0
OwnStepsAreAlike = (uri view : List ℕ) → OwnSteps uri view

-- What the daemon makes of what comes first.

-- the daemon comes to the outcome of the plain machine, where each message that it then sends on the connection can be sent
abbrev pub HandlingsAreAlike : Type 0
HandlingsAreAlike =
    (uri path body : List ℕ) (up : List (List ℕ)) (s : State) (n : ℕ) (x : Seat) (e : N.Editor) → Good (text_at s.history path) e → IsTied uri x e
    → IsAt s n path e → path_of s.base uri ≡ Ok path → uri_of s.base path ≡ uri → x.up ≡ body ∷ up → Each CanBeSent (answer_messages s n body)
    → HandlesAlike uri s n path body up x e

-- What the other editors of a daemon are told, each on a connection of its own, where each message that it is sent can be sent.
abbrev pub TellingsAreAlike : Type 0
TellingsAreAlike =
    (uri path view : List ℕ) (s : State) (n k : ℕ) (id : Option MessageId) (o : Outcome) (x : Seat) (e : N.Editor) → Good view e → IsTied uri x e
    → (at : IsAt s k path e) → uri_of s.base path ≡ uri → is_number n k ≡ false → IsOneChange s o
    → Each CanBeSent (others_messages s.base o.effects at.links) → TellsAlike uri path s n k id o x e

-- whatever is read of a body, it comes to one change at most
abbrev pub OutcomesAreOneChange : Type 0
OutcomesAreOneChange = (s : State) (n : ℕ) (read : Result Incoming MessageFault) → IsOneChange s (outcome_of s n read)

-- connections of editors begin and end beside each other
abbrev pub ConnectionsAreApart : Type 0
ConnectionsAreApart = (s : State) (n : ℕ) (path : List ℕ) (e : N.Editor) → Connections s n path e

-- What the client makes of what the daemon writes.

-- the first frame comes to both, and the same line is printed, if any
pub record DoesAlike (uri : List ℕ) (n : ℕ) (note : HeardNote) (after : Seat) (e : N.Editor) : Type 0 where
  pub tied : IsTied uri after (N.delivered e)
  pub printed : note_line n note ≡ first_line n (N.marks e.wire)

abbrev pub DeliveriesAreAlike : Type 0
DeliveriesAreAlike =
    (uri view : List ℕ) (n : ℕ) (before after : Seat) (note : HeardNote) (e : N.Editor) → Good view e → IsTied uri before e
    → IsDelivered before note after → DoesAlike uri n note after e
