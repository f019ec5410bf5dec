-- A daemon of its parts.
use Rattle.std.specs.Prelude.{ℕ, List}
use Rattle.file_uri.specs.Base.{BaseView}
use Rattle.daemon_core.specs.History.{History}
use Rattle.daemon_core.specs.State.{Links, State}

-- a daemon of these parts
abbrev pub state_of : BaseView → History → List (ℕ × Links) → State
state_of base history connections = record { base = base; history = history; connections = connections }
