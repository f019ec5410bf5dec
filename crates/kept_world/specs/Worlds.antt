-- Whole worlds as a program keeps them: each daemon has all its connections, and an editor of a script is a client with the bodies
-- under way from it and the frames under way to it.
use Rattle.std.specs.Prelude.{ℕ, ◌+◌, List, [], map, Option, Some, None, slice_get, slice_set, option_and_then, if◌then◌else◌, ◌==◌}
use Rattle.rpc_frame.specs.Stream.{StreamEnd}
use Rattle.daemon_core.specs.State.{State}
use Rattle.frame_world.specs.Seats as seat
use Rattle.frame_world.specs.Seats.{Seat}
use Rattle.plain_world.specs.declared.TheConstants.{FIRST_OWN}

-- a daemon that runs, and what the reader of each connection that the script feeds keeps of its stream
pub record KeptHost : Type 0 where
  pub state : State
  pub readers : List (ℕ × StreamEnd)

-- an editor of a script: its daemon, the path of its file there, its connection while it has one, and the client
pub record KeptEditor : Type 0 where
  pub daemon : ℕ
  pub path : List ℕ
  pub connection : Option ℕ
  pub seat : Seat

-- daemons in the order of making, of which some have stopped; editors, likewise; and how many connections the script has made of
-- its own
pub record KeptWorld : Type 0 where
  pub hosts : List (Option KeptHost)
  pub editors : List KeptEditor
  pub connections : ℕ

-- before the first move
abbrev pub beginning : KeptWorld
beginning = record { hosts = []; editors = []; connections = 0 }

-- the number of the next connection of the script's own
abbrev pub next_connection : KeptWorld → ℕ
next_connection k = FIRST_OWN + k.connections

-- whether there is a host, and which
abbrev pub if_there : Option KeptHost → Option KeptHost
if_there host = host

-- the daemon of a number, where it is there and runs
abbrev pub running : KeptWorld → ℕ → Option KeptHost
running k d = option_and_then if_there (slice_get k.hosts d)

-- an editor of a number, where it is there
abbrev pub editor_of : KeptWorld → ℕ → Option KeptEditor
editor_of k e = slice_get k.editors e

-- a daemon has changed
abbrev pub with_host : KeptWorld → ℕ → KeptHost → KeptWorld
with_host k d h = record k { hosts = slice_set k.hosts d (Some h) }

-- an editor has changed
abbrev pub with_editor : KeptWorld → ℕ → KeptEditor → KeptWorld
with_editor k e x = record k { editors = slice_set k.editors e x }

abbrev pub with_seat : KeptWorld → ℕ → KeptEditor → Seat → KeptWorld
with_seat k e x s = with_editor k e (record x { seat = s })

-- the connection of an editor ends
abbrev pub cut_off : KeptEditor → KeptEditor
cut_off x = record x { connection = None; seat = seat.lost x.seat }

-- the daemon has stopped, and the connections of its editors have ended
abbrev pub lost_with : ℕ → KeptEditor → KeptEditor
lost_with d x = if x.daemon == d then cut_off x else x

abbrev pub without_host : KeptWorld → ℕ → KeptWorld
without_host k d = record k { hosts = slice_set k.hosts d None; editors = map (lost_with d) k.editors }
