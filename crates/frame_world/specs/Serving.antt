-- What a daemon that a program keeps makes of the first body under way from an editor.
use Rattle.std.specs.Prelude.{◌≡◌, ◌⊎◌, ℕ, List, [], ◌∷◌, ◌++◌, flat_map, Option, None, if◌then◌else◌, false}
use Rattle.std.specs.Option.{option_map}
use Rattle.bridge_world.specs.Counted.{Held}
use Rattle.bridge_world.specs.Counted as N
use Rattle.editor_bridge.specs.Link.{Link}
use Rattle.bridge_world.specs.Lists.{Each}
use Rattle.rpc_message.specs.Messages.{message_of}
use Rattle.rpc_message.specs.declared.messages.MessageId.{MessageId}
use Rattle.rpc_message.specs.declared.messages.ToEditor.{ToEditor}
use Rattle.delta.specs.Cells.{Cells, IsNormal}
use Rattle.daemon_core.specs.History.{is_path, text_at}
use Rattle.daemon_core.specs.Outcome.{Effect, Outcome, effects_of, state_after}
use Rattle.daemon_core.specs.Outputs.{reply, own_messages, outputs, outcome_of, id_of, serve}
use Rattle.daemon_core.specs.Refusing.{Step}
use Rattle.daemon_core.specs.Serving.{or_refusal}
use Rattle.daemon_core.specs.State.{Links, State, is_number, link_at, links_of}
use Rattle.daemon_core.specs.declared.events.Event.TheVariants.{EditorBegan, Ended, EditorFrame}
use Rattle.daemon_core.specs.declared.events.Output.{Output}
use Rattle.daemon_core.specs.declared.events.Output.TheVariants.{Send, HangUp, Notice, Shutdown}
use Rattle.plain_world.specs.Handling.{first_step, verdict_of}
use Rattle.frame_world.specs.Seats.{Seat}
use Rattle.frame_world.specs.Tie.{IsTied}

-- the frames that are sent on a connection
abbrev pub frame_to : ℕ → Output → List (List ℕ)
frame_to n (Send k frame) = if is_number n k then frame ∷ [] else []
frame_to n (HangUp k) = []
frame_to n (Notice notice) = []
frame_to n Shutdown = []

abbrev pub sent_on : ℕ → List Output → List (List ℕ)
sent_on n outputs = flat_map (frame_to n) outputs

-- an editor's first body has come to its daemon, and what the daemon sends it is under way
abbrev pub handled : State → ℕ → List ℕ → List (List ℕ) → Seat → Seat
handled s n body up x = record x { up = up; down = x.down ++ sent_on n (serve s (EditorFrame n body)).outputs }

-- the link of an editor without what is there for the account alone
abbrev pub link_held : Held → Link
link_held h = h.link

-- none of the connections has a number
abbrev pub HasNone : ℕ → List (ℕ × Links) → Type 0
HasNone k connections = Each (λ (c : ℕ × Links). is_number k c.0 ≡ false) connections

-- just one has, and this is open on it
abbrev pub HasOnce : ℕ → Links → List (ℕ × Links) → Type 0
HasOnce k links [] = ⊥
HasOnce k links (c ∷ connections) =
    ((c ≡ (k, links)) × HasNone k connections) ⊎ ((is_number k c.0 ≡ false) × HasOnce k links connections)

-- a daemon has a connection of a number, on which just the link of an editor is open, at a path
pub record IsAt (s : State) (n : ℕ) (path : List ℕ) (e : N.Editor) : Type 0 where
  pub links : Links
  pub once : HasOnce n links s.connections
  pub link : link_at links path ≡ option_map link_held e.link
  pub others : (q : List ℕ) → (q ≡ path → ⊥) → link_at links q ≡ None

-- the messages that the connection of a body is sent
abbrev pub answer_messages : State → ℕ → List ℕ → List ToEditor
answer_messages s n body =
    let read = message_of body in
    let o = outcome_of s n read in reply (id_of read) o.answer ++ own_messages s.base o.own (links_of s n)

-- the step to which an editor's first message comes in the plain machine
abbrev pub plain_step_of : State → List ℕ → N.Editor → Step Outcome
plain_step_of s path e = first_step s path (N.plain_of e).sent (N.plain_of e).link

-- the editor that is left
abbrev pub editor_after : State → List ℕ → N.Editor → N.Editor
editor_after s path e =
    let step = plain_step_of s path e in N.handled (verdict_of step) (text_at (or_refusal s step).history path) e

-- The daemon comes to the outcome of the plain machine, and the editor to what it comes to there.
pub record HandlesAlike (uri : List ℕ) (s : State) (n : ℕ) (path body : List ℕ) (up : List (List ℕ)) (x : Seat) (e : N.Editor) : Type 0 where
  pub history : (outcome_of s n (message_of body)).history ≡ (or_refusal s (plain_step_of s path e)).history
  pub effects : (outcome_of s n (message_of body)).effects ≡ (or_refusal s (plain_step_of s path e)).effects
  pub goes_on : (outcome_of s n (message_of body)).shuts_down ≡ false
  pub tied : IsTied uri (handled s n body up x) (editor_after s path e)
  pub at : IsAt (serve s (EditorFrame n body)).state n path (editor_after s path e)

-- What the other editors are told.

-- an editor of the file at a path is told of effects in turn
abbrev pub told_in_turn : List ℕ → List Effect → N.Editor → N.Editor
told_in_turn path [] e = e
told_in_turn path (effect ∷ effects) e =
    told_in_turn path effects (if is_path effect.path path then N.told effect.delta e else e)

-- what a daemon sends on another connection is under way to the editor there
abbrev pub received : ℕ → List Output → Seat → Seat
received k sent x = record x { down = x.down ++ sent_on k sent }

-- one change of a file at most, which has come on another connection
pub record IsOneChange (s : State) (o : Outcome) : Type 0 where
  pub path : List ℕ
  pub delta : Cells
  pub effects : o.effects ≡ effects_of path delta
  pub normal : IsNormal delta

-- an editor on connection k is told of a message on connection n as in the machine with counts
pub record TellsAlike (uri path : List ℕ) (s : State) (n k : ℕ) (id : Option MessageId) (o : Outcome) (x : Seat) (e : N.Editor) : Type 0 where
  pub tied : IsTied uri (received k (outputs s n id o) x) (told_in_turn path o.effects e)
  pub at : IsAt (state_after s n o) k path (told_in_turn path o.effects e)

-- What an editor's connection is where connections begin and end: its own, and others beside it.
pub record Connections (s : State) (n : ℕ) (path : List ℕ) (e : N.Editor) : Type 0 where
  pub begins : HasNone n s.connections → e.link ≡ None → IsAt (serve s (EditorBegan n)).state n path e
  pub another_begins : (k : ℕ) → is_number n k ≡ false → IsAt s n path e → IsAt (serve s (EditorBegan k)).state n path e
  pub another_ends : (k : ℕ) → is_number k n ≡ false → IsAt s n path e → IsAt (serve s (Ended k)).state n path e
