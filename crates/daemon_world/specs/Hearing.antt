-- A piece of the stream of a connection that a script feeds comes to a daemon in three steps: it is read, its bodies come, and the connection
-- ends where the stream has a fault.
use Rattle.std.specs.Prelude.{◌≡◌, ℕ, List, Option, Some, None}
use Rattle.std.specs.Map.{set_value}
use Rattle.rpc_frame.specs.Stream.{StreamEnd}
use Rattle.rpc_frame.specs.declared.faults.FrameFault.{FrameFault}
use Rattle.rpc_frame.specs.declared.pieces.StreamRead.{StreamRead}
use Rattle.daemon_core.specs.State.{is_number}
use Rattle.plain_world.specs.Lines.{hung_line}
use Rattle.plain_world.specs.RawFrames.{Reader, read_behind}
use Rattle.kept_world.specs.Events.{KeptPlayed}
use Rattle.kept_world.specs.Moves.{if_runs}
use Rattle.kept_world.specs.Steps.{quietly, kept_of, without_raw}
use Rattle.kept_world.specs.Worlds.{KeptHost, KeptWorld, running, with_host}
use Rattle.daemon_host.specs.Streams.{IsReadAs}

-- a piece has been read, and the stream behind it is kept; the bodies have not come yet
pub record IsReadOn (reader : Reader) (k : KeptWorld) (d c : ℕ) (piece : List ℕ) (l : KeptWorld) (read : StreamRead) : Type 0 where
  pub host : KeptHost
  pub runs : running k d ≡ Some host
  pub kept : StreamEnd
  pub known : kept_of host c ≡ Some kept
  pub world : l ≡ with_host k d (record host { readers = set_value (is_number c) host.readers (read_behind reader kept piece).kept })
  pub is : IsReadAs (read_behind reader kept piece) read

-- a connection has ended by a fault of its frames, where its daemon runs
abbrev pub hung_at : ℕ → ℕ → KeptWorld → KeptHost → KeptPlayed
hung_at d c k h = record { world = with_host k d (without_raw c h); printed = hung_line d c }

abbrev pub hung_up : ℕ → ℕ → KeptWorld → KeptPlayed
hung_up d c k = if_runs (running k d) (hung_at d c k) k

-- a connection ends where its stream has a fault
abbrev pub ends_if : Option FrameFault → ℕ → ℕ → KeptWorld → KeptPlayed
ends_if None d c k = quietly k
ends_if (Some fault) d c k = hung_up d c k
