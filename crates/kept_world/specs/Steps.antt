-- What each move does to a world that a program keeps, where that is a function of the world: the next world and the lines printed,
-- or that it is not possible.
use Rattle.std.specs.Prelude.{ℕ, ◌+◌, ◌==◌, Bool, ◌||◌, ◌&&◌, not, nat_lt, nat_le, List, [], ◌∷◌, ◌++◌, length, filter, codes, decimal}
use Rattle.std.specs.Prelude.{Option, Some, None, is_some, if◌then◌else◌}
use Rattle.std.specs.BTreeMap.{insert_entry}
use Rattle.std.specs.Map.{lookup}
use Rattle.std.specs.Ordering.{nat_cmp}
use Rattle.bridge_world.specs.Lists.{only_if}
use Rattle.file_uri.specs.Base.{BaseView}
use Rattle.file_uri.specs.UriOf.{uri_of}
use Rattle.replay_script.specs.Texts.{quoted}
use Rattle.rpc_frame.specs.Stream.{StreamEnd, Begun}
use Rattle.editor_client.specs.Editor.{Editor, new_editor, change_at, is_closed}
use Rattle.daemon_core.specs.History.{view_at}
use Rattle.daemon_core.specs.Outputs.{serve}
use Rattle.daemon_core.specs.State.{new_state, is_number}
use Rattle.daemon_core.specs.declared.events.Event.TheVariants.{EditorBegan, Ended}
use Rattle.frame_world.specs.Seats as seat
use Rattle.frame_world.specs.Seats.{Seat}
use Rattle.plain_world.specs.Lines.{file_line, held_line}
use Rattle.plain_world.specs.Playing.{◌>>=◌}
use Rattle.plain_world.specs.declared.TheConstants.{FIRST_OWN, MOST_DAEMONS, MOST_EDITORS, LONGEST_SENT}
use Rattle.kept_world.specs.Events.{KeptPlayed}
use Rattle.kept_world.specs.Worlds.{KeptHost, KeptEditor, KeptWorld, next_connection, running, editor_of, with_host, with_editor, with_seat, cut_off}

-- a move that prints nothing
abbrev pub quietly : KeptWorld → KeptPlayed
quietly k = record { world = k; printed = [] }

-- a move that changes nothing
abbrev pub prints : KeptWorld → List ℕ → KeptPlayed
prints k line = record { world = k; printed = line }

-- a daemon begins, without files or connections
abbrev pub begins : BaseView → KeptWorld → ℕ → Option KeptPlayed
begins base k d =
    only_if (d == length k.hosts && nat_lt d MOST_DAEMONS)
    (quietly (record k { hosts = k.hosts ++ Some (record { state = new_state base; readers = [] }) ∷ [] }))

-- an editor's connection begins at a daemon
abbrev pub with_connection : KeptWorld → ℕ → KeptHost → KeptWorld
with_connection k d h =
    record (with_host k d (record h { state = (serve h.state (EditorBegan (next_connection k))).state })) { connections = k.connections + 1 }

-- an editor connects, shows its text and opens it
abbrev pub new_client : KeptHost → List ℕ → List ℕ → Editor
new_client h path text = new_editor (uri_of h.state.base path) text

abbrev pub new_kept : KeptWorld → ℕ → KeptHost → List ℕ → List ℕ → KeptEditor
new_kept k d h path text =
    record {
      daemon = d;
      path = path;
      connection = Some (next_connection k);
      seat = seat.opened (record { client = new_client h path text; up = []; down = [] });
    }

abbrev pub joined : KeptWorld → ℕ → KeptHost → List ℕ → List ℕ → KeptWorld
joined k d h path text = record (with_connection k d h) { editors = k.editors ++ new_kept k d h path text ∷ [] }

abbrev pub joins : KeptWorld → ℕ → ℕ → List ℕ → List ℕ → Option KeptPlayed
joins k e d path text = do
  h ← running k d
  only_if (e == length k.editors && nat_lt e MOST_EDITORS && nat_le (length text) LONGEST_SENT) (quietly (joined k d h path text))

-- so many characters at a place give way to a text
abbrev pub types : KeptWorld → ℕ → ℕ → ℕ → List ℕ → Option KeptPlayed
types k e place gone text = do
  x ← editor_of k e
  only_if (nat_le (place + gone) (length x.seat.client.text) && nat_le (length text) LONGEST_SENT)
      (quietly (with_seat k e x (seat.typed (change_at place gone text) x.seat)))

-- an editor closes its text
abbrev pub closes : KeptWorld → ℕ → Option KeptPlayed
closes k e = do
  x ← editor_of k e
  only_if (is_some x.connection && not (is_closed x.seat.client.state)) (quietly (with_seat k e x (seat.closed x.seat)))

-- an editor opens its text, on the connection that it has, or on a new one to its daemon
abbrev pub opens_on : KeptWorld → ℕ → KeptEditor → Option ℕ → Option KeptPlayed
opens_on k e x (Some n) = Some (quietly (with_seat k e x (seat.opened x.seat)))
opens_on k e x None = do
  h ← running k x.daemon
  Some (quietly (with_editor (with_connection k x.daemon h) e (record x { connection = Some (next_connection k); seat = seat.opened x.seat })))

abbrev pub opens : KeptWorld → ℕ → Option KeptPlayed
opens k e = do
  x ← editor_of k e
  played ← opens_on k e x x.connection
  only_if (nat_le (length x.seat.client.text) LONGEST_SENT && is_closed x.seat.client.state) played

-- the connection of an editor ends
abbrev pub ended : KeptHost → ℕ → KeptHost
ended h n = record h { state = (serve h.state (Ended n)).state }

abbrev pub cuts : KeptWorld → ℕ → Option KeptPlayed
cuts k e = do
  x ← editor_of k e
  n ← x.connection
  h ← running k x.daemon
  Some (quietly (with_editor (with_host k x.daemon (ended h n)) e (cut_off x)))

-- whether something is under way between an editor and its daemon
abbrev pub is_busy : Seat → Bool
is_busy s = not (length s.up == 0) || not (length s.down == 0)

abbrev pub word_of : KeptEditor → List ℕ
word_of x =
    if not (is_some x.connection) then codes "lost"
    else (if is_busy x.seat then codes "busy"
    else (if is_closed x.seat.client.state then codes "closed"
    else codes "quiet"))

abbrev pub show_line : ℕ → KeptEditor → List ℕ
show_line e x =
    codes "show " ++ decimal e ++ codes " " ++ word_of x ++ codes " " ++ quoted x.seat.client.text ++ codes "\n"

abbrev pub shows : KeptWorld → ℕ → Option KeptPlayed
shows k e = do
  x ← editor_of k e
  Some (prints k (show_line e x))

abbrev pub tells_file : KeptWorld → ℕ → List ℕ → Option KeptPlayed
tells_file k d path = do
  h ← running k d
  Some (prints k (file_line d path (view_at h.state.history path)))

abbrev pub tells_held : KeptWorld → ℕ → Option KeptPlayed
tells_held k d = do
  h ← running k d
  Some (prints k (held_line d h.state.history.held))

-- what the reader of a connection keeps, where it is one that a script feeds
abbrev pub kept_of : KeptHost → ℕ → Option StreamEnd
kept_of h c = lookup (is_number c) h.readers

-- a connection begins, with a number that the daemon does not know
abbrev pub raw_begun : KeptHost → ℕ → KeptHost
raw_begun h c =
    record { state = (serve h.state (EditorBegan c)).state; readers = insert_entry nat_cmp h.readers c (Begun []) }

abbrev pub raw_begins : KeptWorld → ℕ → ℕ → Option KeptPlayed
raw_begins k d c = do
  h ← running k d
  only_if (nat_lt c FIRST_OWN && not (is_some (kept_of h c))) (quietly (with_host k d (raw_begun h c)))

-- a connection has ended, with its reader
abbrev pub without_raw : ℕ → KeptHost → KeptHost
without_raw c h = record { state = (serve h.state (Ended c)).state; readers = filter (λ r. not (is_number c r.0)) h.readers }

abbrev pub raw_ends : KeptWorld → ℕ → ℕ → Option KeptPlayed
raw_ends k d c = do
  h ← running k d
  kept ← kept_of h c
  Some (quietly (with_host k d (without_raw c h)))
