-- The connections that a script feeds byte by byte: a stream is read as frames, and each body is an event of the daemon.
use Rattle.std.specs.Prelude.{ℕ, ◌==◌, Bool, true, false, ◌&&◌, not, nat_lt, List, [], ◌∷◌, ◌++◌, map, filter, Option, Some, None, slice_set, is_some, if◌then◌else◌}
use Rattle.std.specs.BTreeMap.{insert_entry}
use Rattle.std.specs.Map.{lookup, set_value}
use Rattle.std.specs.Ordering.{nat_cmp}
use Rattle.bridge_world.specs.Lists.{only_if}
use Rattle.rpc_frame.specs.Stream.{StreamEnd, Begun, Broken, Reads}
use Rattle.rpc_message.specs.Messages.{message_of}
use Rattle.daemon_core.specs.Outcome.{Outcome, state_after}
use Rattle.daemon_core.specs.Outputs.{outcome_of, id_of, outputs, serve}
use Rattle.daemon_core.specs.State.{is_number}
use Rattle.daemon_core.specs.declared.events.Event.TheVariants.{EditorBegan, Ended}
use Rattle.plain_world.specs.Handling.{Played, told_seats}
use Rattle.plain_world.specs.Lines.{told_lines, hung_line}
use Rattle.plain_world.specs.Playing.{◌>>=◌, quietly, cut_off}
use Rattle.plain_world.specs.World.{Host, Seat, World, running}
use Rattle.plain_world.specs.declared.TheConstants.{FIRST_OWN, LONGEST_BODY}

-- what a reader of the daemon keeps of a connection's stream, where that is one that a script feeds
abbrev pub kept_of : Host → ℕ → Option StreamEnd
kept_of h c = lookup (is_number c) h.readers

-- with another state of a daemon
abbrev pub with_host : World → ℕ → Host → World
with_host w d h = record w { hosts = slice_set w.hosts d h }

-- a connection begins, with a number that the daemon does not know
abbrev pub raw_begins : World → ℕ → ℕ → Option Played
raw_begins w d c = do
  h ← running w d
  only_if (nat_lt c FIRST_OWN && not (is_some (kept_of h c)))
      (quietly (with_host w d (record h { state = (serve h.state (EditorBegan c)).state; readers = insert_entry nat_cmp h.readers c (Begun []) })))

-- a connection has ended, with its reader
abbrev pub without_raw : ℕ → Host → Host
without_raw c h = record h { state = (serve h.state (Ended c)).state; readers = filter (λ r. not (is_number c r.0)) h.readers }

abbrev pub raw_ends : World → ℕ → ℕ → Option Played
raw_ends w d c = do
  h ← running w d
  kept ← kept_of h c
  Some (quietly (with_host w d (without_raw c h)))

-- a daemon that has stopped keeps its files, and all its connections have ended
abbrev pub stopped : Host → Host
stopped h = record { runs = false; state = record h.state { connections = [] }; readers = [] }

-- an editor of the script whose daemon this is has lost its connection
abbrev pub lost_with : ℕ → Seat → Seat
lost_with d x = if x.daemon == d then cut_off x else x

abbrev pub stops_if : Bool → ℕ → Host → World → World
stops_if false d h w = with_host w d h
stops_if true d h w = record (with_host w d (stopped h)) { seats = map (lost_with d) w.seats }

-- the world after a message on connection c has come to this outcome
abbrev pub after_outcome : World → ℕ → Host → ℕ → Outcome → World
after_outcome w d h c o =
    stops_if o.shuts_down d (record h { state = state_after h.state c o }) (record w { seats = map (told_seats d o.effects) w.seats })

-- a body comes to the daemon
abbrev pub raw_frame : World → ℕ → Host → ℕ → List ℕ → Played
raw_frame w d h c body =
    let read = message_of body in
    let o = outcome_of h.state c read in
    record { world = after_outcome w d h c o; printed = told_lines d (outputs h.state c (id_of read) o) }

-- whole frames come in turn; those behind a shutdown come to nobody
abbrev pub if_runs : Option Host → (Host → Played) → World → Played
if_runs None next w = quietly w
if_runs (Some h) next w = next h

abbrev pub raw_frames : List (List ℕ) → ℕ → ℕ → World → Played
raw_frames [] d c w = quietly w
raw_frames (body ∷ bodies) d c w =
    if_runs (running w d)
    (λ h. let first = raw_frame w d h c body in
    let rest = raw_frames bodies d c first.world in
    record { world = rest.world; printed = first.printed ++ rest.printed })
    w

-- what is kept of the stream behind the whole frames; a connection whose frames have a fault has ended
abbrev pub keeps : StreamEnd → ℕ → ℕ → World → Played
keeps (Begun bytes) d c w =
    if_runs (running w d) (λ h. quietly (with_host w d (record h { readers = set_value (is_number c) h.readers (Begun bytes) }))) w
keeps (Broken fault) d c w =
    if_runs (running w d) (λ h. record { world = with_host w d (without_raw c h); printed = hung_line d c }) w

abbrev pub then_keeps : StreamEnd → ℕ → ℕ → Played → Played
then_keeps kept d c heard =
    let left = keeps kept d c heard.world in record { world = left.world; printed = heard.printed ++ left.printed }

-- how a stream is read: the bodies of its whole frames, and what is left or the first fault
pub record Reading : Type 0 where
  pub bodies : List (List ℕ)
  pub kept : StreamEnd

-- The reading of each stream by the grammar of frames. There is one, and no other.
pub record Reader : Type 0 where
  pub read : List ℕ → Reading
  pub right : (stream : List ℕ) → Reads LONGEST_BODY stream (read stream).bodies (read stream).kept

-- what a piece gives behind what was kept; nothing comes behind a fault, since its connection has ended
abbrev pub read_behind : Reader → StreamEnd → List ℕ → Reading
read_behind reader (Begun kept) piece = reader.read (kept ++ piece)
read_behind reader (Broken fault) piece = record { bodies = []; kept = Broken fault }

-- the bodies of a piece come, and then what is left is kept
abbrev pub heard_so : World → ℕ → ℕ → Reading → Played
heard_so w d c reading = then_keeps reading.kept d c (raw_frames reading.bodies d c w)

-- a piece of the stream of a connection comes
abbrev pub raw_hears : Reader → World → ℕ → ℕ → List ℕ → Option Played
raw_hears reader w d c piece = do
  h ← running w d
  kept ← kept_of h c
  Some (heard_so w d c (read_behind reader kept piece))
