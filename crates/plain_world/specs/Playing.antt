-- What each move of an editor does: the next world and the lines printed, or that it is not possible.
use Rattle.std.specs.Prelude.{ℕ, zero, suc, ◌+◌, ◌==◌, true, ◌&&◌, not, nat_lt, nat_le, List, [], ◌∷◌, ◌++◌, length, Option, Some, None, slice_set, option_and_then}
use Rattle.bridge_world.specs.Lists.{only_if}
use Rattle.bridge_world.specs.Plain as P
use Rattle.bridge_world.specs.Plain.{is_closed}
use Rattle.bridge_world.specs.Room.{new_plain}
use Rattle.text_position.specs.Edits.{replacing}
use Rattle.file_uri.specs.Base.{BaseView}
use Rattle.daemon_core.specs.History.{view_at}
use Rattle.daemon_core.specs.State.{new_state}
use Rattle.plain_world.specs.Handling.{Played, handled}
use Rattle.plain_world.specs.Lines.{first_line, show_line, file_line, held_line}
use Rattle.plain_world.specs.World.{Host, Seat, World, next_connection, running, seat_of, is_connected}
use Rattle.plain_world.specs.declared.TheConstants.{MOST_DAEMONS, MOST_EDITORS, LONGEST_SENT}

-- the next step, where this one was possible
infixl 10 ◌>>=◌
abbrev pub ◌>>=◌ : {A B : Type 0} → Option A → (A → Option B) → Option B
found >>= next = option_and_then next found

-- a move that prints nothing
abbrev pub quietly : World → Played
quietly w = record { world = w; printed = [] }

-- a move that changes nothing
abbrev pub prints : World → List ℕ → Played
prints w line = record { world = w; printed = line }

-- an editor of the script has done something of its own
abbrev pub with_seat : World → ℕ → Seat → World
with_seat w e x = record w { seats = slice_set w.seats e x }

abbrev pub with_editor : World → ℕ → Seat → P.Editor → World
with_editor w e x editor = with_seat w e (record x { editor = editor })

-- a daemon begins, without files or connections
abbrev pub new_host : BaseView → Host
new_host base = record { runs = true; state = new_state base; readers = [] }

abbrev pub begins : BaseView → World → ℕ → Option Played
begins base w d =
    only_if (d == length w.hosts && nat_lt d MOST_DAEMONS)
    (quietly (record w { hosts = w.hosts ++ new_host base ∷ [] }))

-- an editor connects, shows its text and opens it
abbrev pub new_seat : World → ℕ → List ℕ → List ℕ → Seat
new_seat w d path text =
    record { daemon = d; path = path; connection = Some (next_connection w); editor = P.opened (new_plain text) }

abbrev pub joins : World → ℕ → ℕ → List ℕ → List ℕ → Option Played
joins w e d path text = do
  host ← running w d
  only_if (e == length w.seats && nat_lt e MOST_EDITORS && nat_le (length text) LONGEST_SENT)
      (quietly (record w { seats = w.seats ++ new_seat w d path text ∷ []; connections = w.connections + 1 }))

-- so many characters at a place give way to a text
abbrev pub types : World → ℕ → ℕ → ℕ → List ℕ → Option Played
types w e place gone text = do
  x ← seat_of w e
  only_if (nat_le (place + gone) (length x.editor.text) && nat_le (length text) LONGEST_SENT)
      (quietly (with_editor w e x (P.typed (replacing (length x.editor.text) place (place + gone) text) x.editor)))

-- the first message under way comes to the daemon
abbrev pub goes_up : World → ℕ → Option Played
goes_up w e = do
  x ← seat_of w e
  h ← running w x.daemon
  only_if (nat_lt 0 (length x.editor.sent)) (handled w e x h)

-- the first mark under way comes to the editor
abbrev pub goes_down : World → ℕ → Option Played
goes_down w e = do
  x ← seat_of w e
  only_if (nat_lt 0 (length x.editor.wire))
      (record { world = with_editor w e x (P.delivered x.editor); printed = first_line e x.editor.wire })

-- what was played, and then what more is made of the next step, where that was possible
abbrev pub continued : (Played → Played) → Played → Option Played → Played
continued more played None = played
continued more played (Some next) = more (record { world = next.world; printed = played.printed ++ next.printed })

-- a move again, where it was possible, so many times
abbrev pub again : (World → Option Played) → ℕ → Played → Played
again move zero played = played
again move (suc n) played = continued (again move n) played (move played.world)

-- how much is under way from an editor, and to it
abbrev pub count_sent : Option Seat → ℕ
count_sent None = 0
count_sent (Some x) = length x.editor.sent

abbrev pub count_wire : Option Seat → ℕ
count_wire None = 0
count_wire (Some x) = length x.editor.wire

-- all that is under way from an editor comes to its daemon
abbrev pub all_up : World → ℕ → Played
all_up w e = again (λ v. goes_up v e) (count_sent (seat_of w e)) (quietly w)

-- and then all that is under way to it comes to it
abbrev pub all_down : ℕ → Played → Played
all_down e played = again (λ v. goes_down v e) (count_wire (seat_of played.world e)) played

abbrev pub settles : World → ℕ → Option Played
settles w e = do
  x ← seat_of w e
  only_if (is_connected x) (all_down e (all_up w e))

-- an editor closes its text
abbrev pub closes : World → ℕ → Option Played
closes w e = do
  x ← seat_of w e
  only_if (is_connected x && not (is_closed x.editor.state)) (quietly (with_editor w e x (P.closed x.editor)))

-- an editor opens its text
abbrev pub opened_seat : Seat → Seat
opened_seat x = record x { editor = P.opened x.editor }

-- on the connection that it has, or on a new one to its daemon
abbrev pub opens_on : World → ℕ → Seat → Option ℕ → Option Played
opens_on w e x (Some n) = Some (quietly (with_seat w e (opened_seat x)))
opens_on w e x None = do
  h ← running w x.daemon
  Some (quietly (record (with_seat w e (record (opened_seat x) { connection = Some (next_connection w) })) { connections = w.connections + 1 }))

-- where it has closed it; one that is not connected has
abbrev pub opens : World → ℕ → Option Played
opens w e = do
  x ← seat_of w e
  played ← opens_on w e x x.connection
  only_if (nat_le (length x.editor.text) LONGEST_SENT && is_closed x.editor.state) played

-- the connection of an editor ends
abbrev pub cut_off : Seat → Seat
cut_off x = record x { connection = None; editor = P.lost x.editor }

abbrev pub cuts : World → ℕ → Option Played
cuts w e = do
  x ← seat_of w e
  only_if (is_connected x) (quietly (with_seat w e (cut_off x)))

-- what is shown of an editor, and of a file; and how many changes a daemon holds
abbrev pub shows : World → ℕ → Option Played
shows w e = do
  x ← seat_of w e
  Some (prints w (show_line e x))

abbrev pub tells_file : World → ℕ → List ℕ → Option Played
tells_file w d path = do
  h ← running w d
  Some (prints w (file_line d path (view_at h.state.history path)))

abbrev pub tells_held : World → ℕ → Option Played
tells_held w d = do
  h ← running w d
  Some (prints w (held_line d h.state.history.held))
