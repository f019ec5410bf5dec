-- A daemon that keeps texts alone, beside one whose texts are readings of its changes: what it has of the other's texts, and what it
-- makes of what a message asks for.
use Rattle.std.specs.Prelude.{◌≡◌, ℕ, List, Option, Some, None}
use Rattle.daemon_core.specs.History.{History, view_at, made}
use Rattle.daemon_core.specs.Outcome.{Effect, Outcome, answers}
use Rattle.daemon_core.specs.State as texts
use Rattle.daemon_history.specs.Holding as holds
use Rattle.daemon_history.specs.Holding.{Holding, held}
use Rattle.daemon_events.specs.Serving.{effects_if}
use Rattle.daemon_events.specs.State.{State}
use Rattle.daemon_events.specs.Wanting.{Desk, Wanted}

-- the text at hand at a path is the one that is read of the changes, and there is none where there is no file
abbrev pub IsAtHand : Holding → History → List ℕ → Type 0
IsAtHand h files path = view_at files path ≡ holds.view_at h path

-- the texts at hand are some of those that are read of the changes, which are counted
pub record AreAtHand (h : Holding) (files : History) : Type 0 where
  pub count : files.held ≡ held h
  pub held_there : (path text : List ℕ) → view_at files path ≡ Some text → holds.view_at h path ≡ Some text

-- they are all of them
pub record AreAll (h : Holding) (files : History) : Type 0 where
  pub count : files.held ≡ held h
  pub each : (path : List ℕ) → IsAtHand h files path

-- a daemon of texts has those of a daemon over a store, its base and its connections
pub record HasTextsOf (s : State) (t : texts.State) : Type 0 where
  pub base : t.base ≡ s.base
  pub files : AreAll s.holding t.history
  pub connections : t.connections ≡ s.connections

-- what a daemon of texts shows a connection
abbrev pub desk_of : texts.State → ℕ → Desk
desk_of t n = record { base = t.base; view = view_at t.history; links = texts.links_of t n }

-- the texts with a change, if one is wanted
abbrev pub made_if : Option Effect → History → History
made_if None history = history
made_if (Some change) history = made history change.path change.delta

-- what was asked for is done
abbrev pub done : texts.State → Wanted → Outcome
done t w = record (answers t w.answer) {
  history = made_if w.change t.history;
  own = w.own;
  effects = effects_if w.change;
  shuts_down = w.shuts_down;
}
