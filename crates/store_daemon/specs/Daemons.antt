-- What contracts see of a daemon over a store, and what is on its disk.
use Rattle.std.specs.Prelude.{◌≡◌, ◌⊎◌, ℕ, Bool, List, IsTrue}
use Rattle.tt_base.specs.declared.ids.Actor.{Actor}
use Rattle.file_uri.specs.Base.{BaseView}
use Rattle.outside.specs.DiskMeaning.{DiskMeaning}
use Rattle.journal_format.specs.Image.{StandsFor}
use Rattle.journal_format.specs.declared.records.Record.{Record}
use Rattle.replica_store.specs.Disk.{OpensOn}
use Rattle.replica_store.specs.Store.{StoreView}
use Rattle.daemon_core.specs.State.{Links}
use Rattle.daemon_core.specs.declared.events.Event.{Event}
use Rattle.daemon_history.specs.Shown.{shown}
use Rattle.daemon_events.specs.Outputs.{serve}
use Rattle.daemon_events.specs.State.{State, started_on}

-- a daemon: its base, its store, its connections, each number with what is open there, and whether no call has failed
pub record DaemonView (D : Type 0) : Type 0 where
  pub base : BaseView
  pub store : StoreView D
  pub connections : List (ℕ × Links)
  pub live : Bool

-- the state of a daemon of these parts: what is staged is held too
abbrev pub state_on : {D : Type 0} → BaseView → StoreView D → List (ℕ × Links) → State
state_on base store connections = record { base = base; holding = shown store; connections = connections }

abbrev pub state_of : {D : Type 0} → DaemonView D → State
state_of d = state_on d.base d.store d.connections

-- all that a daemon has recorded
abbrev pub recorded_by : {D : Type 0} → DaemonView D → List Record
recorded_by d = (state_of d).holding.recorded

-- a daemon was started on the records of its disk, for this daemon where it has none yet
pub record StartsOn {D : Type 0} (old new : DiskMeaning) (base : BaseView) (actor : Actor) (d : DaemonView D) : Type 0 where
  pub opens : OpensOn old new actor d.store
  pub state : state_of d ≡ started_on base actor opens.recorded
  pub live : IsTrue d.live

-- the image stands for what was recorded before an event, or for that and all that the event records
abbrev pub IsBeforeOrAfterEvent : {D : Type 0} → DaemonView D → Event → List ℕ → Type 0
IsBeforeOrAfterEvent d event image =
    StandsFor image (recorded_by d) ⊎ StandsFor image (serve (state_of d) event).state.holding.recorded
