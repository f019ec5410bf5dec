-- A daemon that runs, and one that has served a frame, but for what is not written to its disk yet.
use Rattle.std.specs.Prelude.{◌≡◌, ℕ, List, [], IsTrue}
use Rattle.file_uri.specs.Base.{BaseView}
use Rattle.replica_store.specs.Store.{StoreView}
use Rattle.daemon_core.specs.History.{History}
use Rattle.daemon_core.specs.Laws as texts
use Rattle.daemon_core.specs.State as texts_state
use Rattle.daemon_core.specs.State.{Links}
use Rattle.daemon_core.specs.declared.events.Event.TheVariants.{EditorFrame}
use Rattle.daemon_core.specs.declared.events.Output.{Output}
use Rattle.daemon_history.specs.Shown.{shown}
use Rattle.daemon_events.specs.Outputs.{serve}
use Rattle.daemon_events.specs.Sending.{AllCanBeSent}
use Rattle.daemon_texts.specs.Texts.{AreAtHand}
use Rattle.store_daemon.specs.Daemons.{state_on}

-- the daemon of the texts at hand
abbrev pub texts_on : BaseView → History → List (ℕ × Links) → texts_state.State
texts_on base files connections = record { base = base; history = files; connections = connections }

-- Its store is of use and has nothing staged, and each link leads to a text at hand, which is one that is read of the changes.
pub record IsRunning {D : Type 0} (base : BaseView) (store : StoreView D) (files : History) (connections : List (ℕ × Links)) : Type 0 where
  pub live : IsTrue store.live
  pub settled : store.staged ≡ []
  pub serves : texts.IsServing (texts_on base files connections)
  pub at_hand : AreAtHand (shown store) files

-- A frame of connection n was served as is said of events; what it records is staged.
pub record IsServed {D : Type 0} (base : BaseView) (old new : StoreView D) (n : ℕ) (body : List ℕ) (before after : List (ℕ × Links)) (files : History)
    (sent : List Output) : Type 0 where
  pub is : serve (state_on base old before) (EditorFrame n body) ≡ record { state = state_on base new after; outputs = sent }
  pub read : AllCanBeSent (state_on base old before) (EditorFrame n body)
  pub live : IsTrue new.live
  pub serves : texts.IsServing (texts_on base files after)
  pub at_hand : AreAtHand (shown new) files
