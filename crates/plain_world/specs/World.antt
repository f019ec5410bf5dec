-- The plain machine of scripts: a world of daemons and editors. An editor of a script and its daemon's link have no
-- counts here, and what is under way between them is a list of messages and a list of marks. A connection that a script
-- feeds byte by byte has the daemon's own link, with counts.
use Rattle.std.specs.Prelude.{ℕ, ◌+◌, Bool, List, [], Option, Some, None, slice_get, option_and_then, is_some, if◌then◌else◌}
use Rattle.bridge_world.specs.Plain as P
use Rattle.rpc_frame.specs.Stream.{StreamEnd}
use Rattle.daemon_core.specs.State.{State}
use Rattle.plain_world.specs.declared.TheConstants.{FIRST_OWN}

-- A daemon of the world, running or not. Its state has the connections that a script feeds, and beside each of these is
-- what its reader keeps of the stream.
pub record Host : Type 0 where
  pub runs : Bool
  pub state : State
  pub readers : List (ℕ × StreamEnd)

-- an editor of a script: its daemon, the path of its file there, the number of its connection while it is connected, and
-- the editor with its link
pub record Seat : Type 0 where
  pub daemon : ℕ
  pub path : List ℕ
  pub connection : Option ℕ
  pub editor : P.Editor

-- daemons and editors in the order of making, and how many connections the script has made of its own
pub record World : Type 0 where
  pub hosts : List Host
  pub seats : List Seat
  pub connections : ℕ

-- before the first move
abbrev pub beginning : World
beginning = record { hosts = []; seats = []; connections = 0 }

-- the number of the next connection of the script's own
abbrev pub next_connection : World → ℕ
next_connection w = FIRST_OWN + w.connections

-- the daemon of a number, where it is there
abbrev pub host_of : World → ℕ → Option Host
host_of w d = slice_get w.hosts d

-- the same, where it runs
abbrev pub running : World → ℕ → Option Host
running w d = option_and_then (λ (h : Host). if h.runs then Some h else None) (host_of w d)

-- an editor of a number, where it is there
abbrev pub seat_of : World → ℕ → Option Seat
seat_of w e = slice_get w.seats e

-- whether an editor is connected
abbrev pub is_connected : Seat → Bool
is_connected x = is_some x.connection
