-- A daemon with the streams that a script feeds, where memory has run out.
use Rattle.std.specs.Prelude.{List, ℕ, [], filter, not}
use Rattle.daemon_core.specs.State.{Links, is_number}
use Rattle.kept_world.specs.Worlds.{KeptHost}

-- the same files and streams, with other connections
abbrev pub connected_so : List (ℕ × Links) → KeptHost → KeptHost
connected_so connections h = record h { state = record h.state { connections = connections } }

-- all connections are gone; the files, and what is kept of each stream, are as they were
abbrev pub cut_off : KeptHost → KeptHost
cut_off h = connected_so [] h

-- what was kept of the stream of a connection is gone
abbrev pub without_stream : ℕ → KeptHost → KeptHost
without_stream c h = record h { readers = filter (λ r. not (is_number c r.0)) h.readers }
