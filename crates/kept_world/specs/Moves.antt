-- What each move makes of a world that a program keeps, and where it is possible.
use Rattle.std.specs.Prelude.{◌≡◌, ℕ, suc, Bool, true, false, nat_lt, List, [], ◌∷◌, ◌++◌, length, Option, Some, None, Ok, is_some, option_and_then}
use Rattle.std.specs.Map.{set_value}
use Rattle.file_uri.specs.Base.{BaseView}
use Rattle.file_uri.specs.PathOf.{path_of}
use Rattle.file_uri.specs.UriOf.{uri_of}
use Rattle.replay_script.specs.declared.moves.Move.{Move}
use Rattle.rpc_message.specs.declared.messages.FromEditor.{FromEditor}
use Rattle.rpc_frame.specs.Stream.{StreamEnd, Begun, Broken}
use Rattle.editor_client.specs.Editor.{Editor, new_editor, change_at}
use Rattle.editor_client.specs.Requests.{open_request, close_request}
use Rattle.editor_client.specs.declared.notes.HeardNote.{HeardNote}
use Rattle.daemon_core.specs.State.{is_number}
use Rattle.daemon_core.specs.declared.events.Event.TheVariants.{EditorFrame}
use Rattle.frame_world.specs.Laws.{IsReadBack, TellsOf}
use Rattle.frame_world.specs.Lines.{note_line}
use Rattle.frame_world.specs.Seats.{Seat, IsDelivered}
use Rattle.plain_world.specs.Lines.{hung_line}
use Rattle.plain_world.specs.RawFrames.{Reader, read_behind}
use Rattle.kept_world.specs.Events.{KeptPlayed, IsEvent}
use Rattle.kept_world.specs.Steps.{quietly, begins, joins, types, closes, opens, cuts, shows, tells_file, tells_held, kept_of, raw_begins, without_raw, raw_ends}
use Rattle.kept_world.specs.Worlds.{KeptHost, KeptEditor, KeptWorld, running, editor_of, with_host, with_seat}

-- What an editor does itself. The body that it sends for that is read as what it asks.

-- the next request of an editor that is there is read so
abbrev pub NextIsRead : KeptWorld → ℕ → (Editor → FromEditor) → Type 0
NextIsRead k e asked = (x : KeptEditor) → editor_of k e ≡ Some x → IsReadBack x.seat.client (asked x.seat.client)

-- the URI of a path below a base names the path, and the open of a new client of it is read so
pub record IsNewClient (base : BaseView) (path text : List ℕ) : Type 0 where
  pub path_is : path_of base (uri_of base path) ≡ Ok path
  pub read : IsReadBack (new_editor (uri_of base path) text) (open_request (new_editor (uri_of base path) text))

pub record IsJoined (k : KeptWorld) (e d : ℕ) (path text : List ℕ) (p : KeptPlayed) : Type 0 where
  pub is : joins k e d path text ≡ Some p
  pub client : (h : KeptHost) → running k d ≡ Some h → IsNewClient h.state.base path text

pub record IsTyped (k : KeptWorld) (e place gone : ℕ) (text : List ℕ) (p : KeptPlayed) : Type 0 where
  pub is : types k e place gone text ≡ Some p
  pub tells : (x : KeptEditor) → editor_of k e ≡ Some x → TellsOf x.seat.client (change_at place gone text)

pub record IsClosed (k : KeptWorld) (e : ℕ) (p : KeptPlayed) : Type 0 where
  pub is : closes k e ≡ Some p
  pub read : NextIsRead k e close_request

pub record IsOpened (k : KeptWorld) (e : ℕ) (p : KeptPlayed) : Type 0 where
  pub is : opens k e ≡ Some p
  pub read : NextIsRead k e open_request

-- What is delivered.

-- the first body under way from an editor comes to its daemon
pub record IsUp (k : KeptWorld) (e : ℕ) (p : KeptPlayed) : Type 0 where
  pub editor : KeptEditor
  pub there : editor_of k e ≡ Some editor
  pub number : ℕ
  pub connection : editor.connection ≡ Some number
  pub body : List ℕ
  pub rest : List (List ℕ)
  pub first : editor.seat.up ≡ body ∷ rest
  pub event : IsEvent (with_seat k e editor (record editor.seat { up = rest })) editor.daemon (EditorFrame number body) p

-- the first frame under way to an editor comes to it
pub record IsDown (k : KeptWorld) (e : ℕ) (p : KeptPlayed) : Type 0 where
  pub editor : KeptEditor
  pub there : editor_of k e ≡ Some editor
  pub note : HeardNote
  pub after : Seat
  pub delivered : IsDelivered editor.seat note after
  pub is : p ≡ record { world = with_seat k e editor after; printed = note_line e note }

-- what was played, and then more
abbrev pub then_played : KeptPlayed → KeptPlayed → KeptPlayed
then_played first next = record { world = next.world; printed = first.printed ++ next.printed }

-- a move, so many times as long as it is possible
pub data Repeats (Does : KeptWorld → KeptPlayed → Type 0) (can : KeptWorld → Bool) : ℕ → KeptWorld → KeptPlayed → Type 0 where
  Never : (k : KeptWorld) → Repeats Does can 0 k (quietly k)
  No_more : (n : ℕ) (k : KeptWorld) → can k ≡ false → Repeats Does can n k (quietly k)
  Once_more : (n : ℕ) (k : KeptWorld) (first next : KeptPlayed) → Does k first → Repeats Does can n first.world next
      → Repeats Does can (suc n) k (then_played first next)

-- whether something is under way from an editor, and to it
abbrev pub has_up : Option KeptEditor → Bool
has_up None = false
has_up (Some x) = nat_lt 0 (length x.seat.up)

abbrev pub has_down : Option KeptEditor → Bool
has_down None = false
has_down (Some x) = nat_lt 0 (length x.seat.down)

-- the first body under way from an editor comes to its daemon, again and again; and so to it
abbrev pub GoesUp : ℕ → ℕ → KeptWorld → KeptPlayed → Type 0
GoesUp e = Repeats (λ k. IsUp k e) (λ k. has_up (editor_of k e))

abbrev pub GoesDown : ℕ → ℕ → KeptWorld → KeptPlayed → Type 0
GoesDown e = Repeats (λ k. IsDown k e) (λ k. has_down (editor_of k e))

-- all that is under way from an editor comes to its daemon, and then all that is under way to it comes to it
pub record IsSettled (k : KeptWorld) (e : ℕ) (p : KeptPlayed) : Type 0 where
  pub before : KeptEditor
  pub there : editor_of k e ≡ Some before
  pub connected : is_some before.connection ≡ true
  pub up : KeptPlayed
  pub goes_up : GoesUp e (length before.seat.up) k up
  pub between : KeptEditor
  pub still : editor_of up.world e ≡ Some between
  pub down : KeptPlayed
  pub goes_down : GoesDown e (length between.seat.down) up.world down
  pub is : p ≡ then_played up down

-- Connections that a script feeds.

-- bodies come in turn to a daemon; those behind a shutdown come to nobody
pub data Hears (d c : ℕ) : List (List ℕ) → KeptWorld → KeptPlayed → Type 0 where
  Done : (k : KeptWorld) → Hears d c [] k (quietly k)
  Stopped : (body : List ℕ) (bodies : List (List ℕ)) (k : KeptWorld) → running k d ≡ None → Hears d c (body ∷ bodies) k (quietly k)
  Next : (body : List ℕ) (bodies : List (List ℕ)) (k : KeptWorld) (first next : KeptPlayed) → IsEvent k d (EditorFrame c body) first
      → Hears d c bodies first.world next → Hears d c (body ∷ bodies) k (then_played first next)

-- what is kept of the stream; a connection whose frames have a fault has ended
abbrev pub keeps_at : StreamEnd → ℕ → ℕ → KeptWorld → KeptHost → KeptPlayed
keeps_at (Begun bytes) d c k h =
    quietly (with_host k d (record h { readers = set_value (is_number c) h.readers (Begun bytes) }))
keeps_at (Broken fault) d c k h = record { world = with_host k d (without_raw c h); printed = hung_line d c }

abbrev pub if_runs : Option KeptHost → (KeptHost → KeptPlayed) → KeptWorld → KeptPlayed
if_runs None next k = quietly k
if_runs (Some h) next k = next h

abbrev pub keeps : StreamEnd → ℕ → ℕ → KeptWorld → KeptPlayed
keeps kept d c k = if_runs (running k d) (keeps_at kept d c k) k

pub record IsHeardOn (reader : Reader) (k : KeptWorld) (d c : ℕ) (piece : List ℕ) (p : KeptPlayed) : Type 0 where
  pub host : KeptHost
  pub runs : running k d ≡ Some host
  pub kept : StreamEnd
  pub known : kept_of host c ≡ Some kept
  pub bodies : KeptPlayed
  pub hears : Hears d c (read_behind reader kept piece).bodies k bodies
  pub is : p ≡ then_played bodies (keeps (read_behind reader kept piece).kept d c bodies.world)

-- Moves.

-- what a move makes of the world: the next world and what is printed
abbrev pub IsMove : BaseView → Reader → KeptWorld → Move → KeptPlayed → Type 0
IsMove base reader k (Move.Daemon d) p = begins base k d ≡ Some p
IsMove base reader k (Move.Editor e d path text) p = IsJoined k e d path text p
IsMove base reader k (Move.Typed e place gone text) p = IsTyped k e place gone text p
IsMove base reader k (Move.Up e) p = IsUp k e p
IsMove base reader k (Move.Down e) p = IsDown k e p
IsMove base reader k (Move.Settle e) p = IsSettled k e p
IsMove base reader k (Move.Close e) p = IsClosed k e p
IsMove base reader k (Move.Open e) p = IsOpened k e p
IsMove base reader k (Move.Cut e) p = cuts k e ≡ Some p
IsMove base reader k (Move.Show e) p = shows k e ≡ Some p
IsMove base reader k (Move.File d path) p = tells_file k d path ≡ Some p
IsMove base reader k (Move.Held d) p = tells_held k d ≡ Some p
IsMove base reader k (Move.BeginEditor d c) p = raw_begins k d c ≡ Some p
IsMove base reader k (Move.Hear d c piece) p = IsHeardOn reader k d c piece p
IsMove base reader k (Move.End d c) p = raw_ends k d c ≡ Some p
IsMove base reader k moved p = ⊥

abbrev pub is_connected : Option KeptEditor → Bool
is_connected None = false
is_connected (Some x) = is_some x.connection

-- whether a connection is one that the script feeds
abbrev pub is_fed : KeptWorld → ℕ → ℕ → Bool
is_fed k d c = is_some (option_and_then (λ h. kept_of h c) (running k d))

-- whether a move is possible
abbrev pub can_move : BaseView → KeptWorld → Move → Bool
can_move base k (Move.Daemon d) = is_some (begins base k d)
can_move base k (Move.Editor e d path text) = is_some (joins k e d path text)
can_move base k (Move.Typed e place gone text) = is_some (types k e place gone text)
can_move base k (Move.Up e) = has_up (editor_of k e)
can_move base k (Move.Down e) = has_down (editor_of k e)
can_move base k (Move.Settle e) = is_connected (editor_of k e)
can_move base k (Move.Close e) = is_some (closes k e)
can_move base k (Move.Open e) = is_some (opens k e)
can_move base k (Move.Cut e) = is_some (cuts k e)
can_move base k (Move.Show e) = is_some (shows k e)
can_move base k (Move.File d path) = is_some (tells_file k d path)
can_move base k (Move.Held d) = is_some (tells_held k d)
can_move base k (Move.BeginEditor d c) = is_some (raw_begins k d c)
can_move base k (Move.Hear d c piece) = is_fed k d c
can_move base k (Move.End d c) = is_some (raw_ends k d c)
can_move base k moved = false
