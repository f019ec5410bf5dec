-- What holds of every daemon, as statements.
use Rattle.std.specs.Prelude.{◌≡◌, ℕ, ◌+◌, ◌≤◌, ◌<◌, ◌^◌, Bool, true, false, List, [], ◌++◌, map, length, Some, None, Ok, Err, IsTrue}
use Rattle.change_codec.specs.WellFormed.{IsActor}
use Rattle.transform.specs.Carried.{IsChain}
use Rattle.tt_base.specs.declared.ids.Actor.{Actor}
use Rattle.editor_bridge.specs.Link.{Link, daemon_text, issued}
use Rattle.file_uri.specs.Base.{BaseView}
use Rattle.file_uri.specs.PathOf.{path_of}
use Rattle.journal_format.specs.Image.{actor_is_first}
use Rattle.journal_format.specs.declared.records.Record.{Record}
use Rattle.replica_views.specs.Views as views
use Rattle.replica_store.specs.Records.{AreTaken}
use Rattle.rpc_message.specs.declared.faults.MessageFault.{MessageFault}
use Rattle.rpc_message.specs.declared.messages.FromEditor.{FromEditor}
use Rattle.rpc_message.specs.declared.messages.FromEditor.TheVariants.{Edit}
use Rattle.rpc_message.specs.declared.messages.MessageId.{MessageId}
use Rattle.rpc_message.specs.declared.messages.ToEditor.{ToEditor}
use Rattle.rpc_message.specs.declared.refusals.Refusal.{Refusal}
use Rattle.rpc_message.specs.declared.refusals.Refusal.TheVariants.{BadRevision, BadPosition, BackwardRange, TextTooLong, Clash}
use Rattle.daemon_core.specs.Outcome.{Answer, Stays, Gone}
use Rattle.daemon_core.specs.Outputs.{reply}
use Rattle.daemon_core.specs.Refusing.{Refused}
use Rattle.daemon_core.specs.declared.events.Event.{Event}
use Rattle.daemon_history.specs.Holding.{Holding, IsHolding, text_at, held}
use Rattle.daemon_history.specs.Shown.{KeepsNames}
use Rattle.daemon_events.specs.Outcome.{Outcome}
use Rattle.daemon_events.specs.Outputs.{serve, serves, send, heard, outcome_of}
use Rattle.daemon_events.specs.Serving.{on_message, or_refusal}
use Rattle.daemon_events.specs.State.{State, started_on, link_of}

-- The link to the file at a path leads to the daemon's text there, and has counted no more than the daemon's changes and
-- the replacement that may follow an open.
pub record IsLinked (h : Holding) (path : List ℕ) (link : Link) : Type 0 where
  pub text : daemon_text link ≡ text_at h path
  pub chain : IsChain (length link.base) link.unconfirmed
  pub issued : issued link ≤ held h + 1
  pub taken : link.taken ≤ held h

-- A daemon that serves: what it holds is what it recorded, and each link is as it should be. No machine addresses the bytes of a
-- text of 2 ^ 62 characters.
pub record IsServing (s : State) : Type 0 where
  pub holds : IsHolding s.holding
  pub actor_is : IsActor s.holding.actor
  pub short : (path : List ℕ) → length (text_at s.holding path) < 2 ^ 62
  pub linked : (n : ℕ) (path : List ℕ) (link : Link) → link_of s n path ≡ Some link → IsLinked s.holding path link

-- whatever comes, a daemon goes on to serve, as long as memory can hold one change more
abbrev pub GoesOn : Type 0
GoesOn = (s : State) (event : Event) → IsServing s → held s.holding < 2 ^ 63 → IsServing (serve s event).state

-- so it is over every list of events
abbrev pub AlwaysServes : Type 0
AlwaysServes = (s : State) (events : List Event) → IsServing s → held s.holding + length events ≤ 2 ^ 63 → IsServing (serves s events).state

-- a daemon that is started on records, each of which was taken, serves
abbrev pub StartsServing : Type 0
StartsServing =
    (base : BaseView) (given : Actor) (recorded : List Record) → IsTrue (actor_is_first recorded) → AreTaken views.beginning recorded
    → IsActor (started_on base given recorded).holding.actor
    → ((path : List ℕ) → length (text_at (started_on base given recorded).holding path) < 2 ^ 62) → IsServing (started_on base given recorded)

-- a daemon that is started again on its records serves, and is the one that it was but for its connections
pub record RestartsSo (s : State) (given : Actor) : Type 0 where
  pub same : started_on s.base given s.holding.recorded ≡ record s { connections = [] }
  pub serves : IsServing (started_on s.base given s.holding.recorded)

abbrev pub Restarts : Type 0
Restarts = (s : State) (given : Actor) → IsServing s → RestartsSo s given

-- the records of the one are those of the other, and more behind them
pub record IsBehind (recorded later : List Record) : Type 0 where
  pub new : List Record
  pub is : later ≡ recorded ++ new

-- records stay, whatever comes
abbrev pub RecordsStay : Type 0
RecordsStay =
    (s : State) (events : List Event) → IsServing s → held s.holding + length events ≤ 2 ^ 63
    → IsBehind s.holding.recorded (serves s events).state.holding.recorded

-- so does each change, under its name
abbrev pub ChangesStay : Type 0
ChangesStay =
    (s : State) (events : List Event) → IsServing s → held s.holding + length events ≤ 2 ^ 63
    → KeepsNames s.holding (serves s events).state.holding

-- a message that is refused leaves all that is held as it was, and no other connection hears of it
pub record ChangesNothing (s : State) (n : ℕ) (message : FromEditor) : Type 0 where
  pub holding : (or_refusal s (on_message s n message)).holding ≡ s.holding
  pub untold : (or_refusal s (on_message s n message)).effects ≡ []

abbrev pub RefusalsChangeNothing : Type 0
RefusalsChangeNothing =
    (s : State) (n : ℕ) (message : FromEditor) (refused : Refused) → on_message s n message ≡ Err refused
    → ChangesNothing s n message

-- so does a body that is no message, and no link ends
pub record LeavesAll (s : State) (o : Outcome) : Type 0 where
  pub holding : o.holding ≡ s.holding
  pub own : o.own ≡ Stays
  pub untold : o.effects ≡ []

abbrev pub FaultsChangeNothing : Type 0
FaultsChangeNothing = (s : State) (n : ℕ) (fault : MessageFault) → LeavesAll s (outcome_of s n (Err fault))

-- which refusals of an edit end its link: those that are judged at the link
abbrev pub ends_link : Refusal → Bool
ends_link (BadRevision confirmed issued seen) = true
ends_link (BadPosition edit) = true
ends_link (BackwardRange edit) = true
ends_link (TextTooLong length) = true
ends_link (Clash given held) = true
ends_link refusal = false

-- a refused edit ends the link at its path, or no link
abbrev pub EndsLinkIf : Bool → State → List ℕ → Refused → Type 0
EndsLinkIf true s uri refused = (path : List ℕ) × ((path_of s.base uri ≡ Ok path) × (refused.own ≡ Gone path))
EndsLinkIf false s uri refused = refused.own ≡ Stays

-- what a refusal of a message does to its link: no refusal but of an edit ends one
abbrev pub EndsSo : State → FromEditor → Refused → Type 0
EndsSo s (Edit uri revision edits) refused = EndsLinkIf (ends_link refused.refusal) s uri refused
EndsSo s message refused = refused.own ≡ Stays

abbrev pub RefusalsEndLinksSo : Type 0
RefusalsEndLinksSo =
    (s : State) (n : ℕ) (message : FromEditor) (refused : Refused) → on_message s n message ≡ Err refused → EndsSo s message refused

-- Whether a message has an id decides on the reply alone: as a notification it does the same, and the rest that is sent is the same. With
-- an id it is answered, and without one it is not.
pub record DiffersInReply (s : State) (n : ℕ) (id : MessageId) (message : FromEditor) : Type 0 where
  pub state :
      (heard s n (Ok (record { id = Some id; message = message }))).state ≡ (heard s n (Ok (record { id = None; message = message }))).state
  pub replies : List ToEditor
  pub replies_are : replies ≡ reply (Some id) (outcome_of s n (Ok (record { id = Some id; message = message }))).answer
  pub outputs :
      (heard s n (Ok (record { id = Some id; message = message }))).outputs
      ≡ map (send n) replies ++ (heard s n (Ok (record { id = None; message = message }))).outputs

abbrev pub NotificationsDoTheSame : Type 0
NotificationsDoTheSame = (s : State) (n : ℕ) (id : MessageId) (message : FromEditor) → DiffersInReply s n id message

-- a notification is not answered, whether it is done, refused or no message at all
abbrev pub NotificationsHaveNoReply : Type 0
NotificationsHaveNoReply = (answer : Answer) → reply None answer ≡ []
