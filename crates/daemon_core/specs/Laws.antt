-- What holds of every daemon, as statements.
use Rattle.std.specs.Prelude.{◌≡◌, ℕ, ◌+◌, ◌≤◌, Bool, true, false, List, [], ◌∷◌, ◌++◌, map, length, Some, None, is_some, Ok, Err}
use Rattle.file_uri.specs.Base.{BaseView}
use Rattle.file_uri.specs.PathOf.{path_of}
use Rattle.transform.specs.Carried.{IsChain}
use Rattle.editor_bridge.specs.Link.{Link, daemon_text, issued}
use Rattle.rpc_message.specs.declared.messages.FromEditor.{FromEditor}
use Rattle.rpc_message.specs.declared.messages.FromEditor.TheVariants.{Edit}
use Rattle.rpc_message.specs.declared.messages.MessageId.{MessageId}
use Rattle.rpc_message.specs.declared.messages.ToEditor.{ToEditor}
use Rattle.rpc_message.specs.declared.refusals.Refusal.{Refusal}
use Rattle.rpc_message.specs.declared.refusals.Refusal.TheVariants.{BadRevision, BadPosition, BackwardRange, TextTooLong}
use Rattle.daemon_core.specs.History.{History, view_at, text_at}
use Rattle.daemon_core.specs.Outcome.{Answer, Stays, Gone}
use Rattle.daemon_core.specs.Outputs.{Served, serve, reply, send, heard}
use Rattle.daemon_core.specs.Refusing.{Refused}
use Rattle.daemon_core.specs.Serving.{on_message, or_refusal}
use Rattle.daemon_core.specs.State.{State, new_state, link_of}
use Rattle.daemon_core.specs.declared.events.Event.{Event}

-- The link to a file leads to the daemon's text there, and has counted no more than the daemon's changes and
-- the replacement that may follow an open.
pub record IsLinked (history : History) (path : List ℕ) (link : Link) : Type 0 where
  pub there : is_some (view_at history path) ≡ true
  pub text : daemon_text link ≡ text_at history path
  pub chain : IsChain (length link.base) link.unconfirmed
  pub issued : issued link ≤ history.held + 1
  pub taken : link.taken ≤ history.held

-- a daemon that serves: each link is as it should be
pub record IsServing (s : State) : Type 0 where
  pub linked : (n : ℕ) (path : List ℕ) (link : Link) → link_of s n path ≡ Some link → IsLinked s.history path link

-- whatever comes, a daemon goes on to serve
abbrev pub GoesOn : Type 0
GoesOn = (s : State) (event : Event) → IsServing s → IsServing (serve s event).state

-- the daemon after a list of events, and all that it has sent
abbrev pub serves : State → List Event → Served
serves s [] = record { state = s; outputs = [] }
serves s (event ∷ events) =
    let first = serve s event in
    let rest = serves first.state events in record { state = rest.state; outputs = first.outputs ++ rest.outputs }

-- a new daemon serves, and goes on to, whatever comes
abbrev pub AlwaysServes : Type 0
AlwaysServes = (base : BaseView) (events : List Event) → IsServing (serves (new_state base) events).state

-- a message that is refused leaves all files as they were, and no other connection hears of it
pub record ChangesNothing (s : State) (n : ℕ) (message : FromEditor) : Type 0 where
  pub files : (or_refusal s (on_message s n message)).history ≡ s.history
  pub untold : (or_refusal s (on_message s n message)).effects ≡ []

abbrev pub RefusalsChangeNothing : Type 0
RefusalsChangeNothing =
    (s : State) (n : ℕ) (message : FromEditor) (refused : Refused) → on_message s n message ≡ Err refused
    → ChangesNothing s n message

-- which refusals of an edit end its link: those that are judged at the link
abbrev pub ends_link : Refusal → Bool
ends_link (BadRevision confirmed issued seen) = true
ends_link (BadPosition edit) = true
ends_link (BackwardRange edit) = true
ends_link (TextTooLong length) = true
ends_link refusal = false

-- a refused edit ends the link at its path, or no link
abbrev pub EndsLinkIf : Bool → State → List ℕ → Refused → Type 0
EndsLinkIf true s uri refused = (path : List ℕ) × ((path_of s.base uri ≡ Ok path) × (refused.own ≡ Gone path))
EndsLinkIf false s uri refused = refused.own ≡ Stays

-- what a refusal of a message does to its link: no refusal but of an edit ends one
abbrev pub EndsSo : State → FromEditor → Refused → Type 0
EndsSo s (Edit uri revision edits) refused = EndsLinkIf (ends_link refused.refusal) s uri refused
EndsSo s message refused = refused.own ≡ Stays

abbrev pub RefusalsEndLinksSo : Type 0
RefusalsEndLinksSo =
    (s : State) (n : ℕ) (message : FromEditor) (refused : Refused) → on_message s n message ≡ Err refused → EndsSo s message refused

-- Whether a message has an id decides on the reply alone: as a notification it does the same, and the rest that is sent is the same.
pub record DiffersInReply (s : State) (n : ℕ) (id : MessageId) (message : FromEditor) : Type 0 where
  pub state :
      (heard s n (Ok (record { id = Some id; message = message }))).state ≡ (heard s n (Ok (record { id = None; message = message }))).state
  pub replies : List ToEditor
  pub outputs :
      (heard s n (Ok (record { id = Some id; message = message }))).outputs
      ≡ map (send n) replies ++ (heard s n (Ok (record { id = None; message = message }))).outputs

abbrev pub NotificationsDoTheSame : Type 0
NotificationsDoTheSame = (s : State) (n : ℕ) (id : MessageId) (message : FromEditor) → DiffersInReply s n id message

-- a notification is not answered
abbrev pub NotificationsHaveNoReply : Type 0
NotificationsHaveNoReply = (answer : Answer) → reply None answer ≡ []
