-- What a daemon is: its base, what it holds, and the connections of its editors.
use Rattle.std.specs.Prelude.{ℕ, List, [], Option}
use Rattle.std.specs.Map.{lookup}
use Rattle.std.specs.Option.{unwrap_or}
use Rattle.tt_base.specs.declared.ids.Actor.{Actor}
use Rattle.editor_bridge.specs.Link.{Link}
use Rattle.file_uri.specs.Base.{BaseView}
use Rattle.journal_format.specs.declared.records.Record.{Record}
use Rattle.daemon_core.specs.State.{Links, is_number, link_at}
use Rattle.daemon_history.specs.Holding.{Holding, started}

-- a daemon: the directory that its URIs are below, its changes, notes and records, and its connections, each number with what is
-- open there, in rising order
pub record State : Type 0 where
  pub base : BaseView
  pub holding : Holding
  pub connections : List (ℕ × Links)

-- A daemon that is started on these records, without connections. Links do not outlive a daemon.
abbrev pub started_on : BaseView → Actor → List Record → State
started_on base given recorded = record { base = base; holding = started given recorded; connections = [] }

-- what a connection has open
abbrev pub links_of : State → ℕ → Links
links_of s n = unwrap_or (lookup (is_number n) s.connections) []

-- the link of a connection to the file at a path
abbrev pub link_of : State → ℕ → List ℕ → Option Link
link_of s n path = link_at (links_of s n) path
