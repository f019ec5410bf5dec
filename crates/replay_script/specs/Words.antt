-- How a word is read: its name, the forms of its arguments, and the move that it asks for with them.
use Rattle.std.specs.Prelude.{ℕ, Bool, true, false, List, [], ◌∷◌, map, Option, codes, slice_get, option_and_then}
use Rattle.std.specs.List.{enumerate_from, list_any}
use Rattle.name_table.specs.Rows.{number_of}
use Rattle.replay_script.specs.Arguments.{Form, Values, Number, Path, Text, Contents, StopMode, Hexadecimal, Speaks}
use Rattle.replay_script.specs.declared.contents.Speaker.{Speaker}
use Rattle.replay_script.specs.declared.moves.Move.{Move}
use Rattle.replay_script.specs.declared.words.Word.{Word}
use Rattle.replay_script.specs.declared.words.Word.TheVariants.{Daemon, Load, Editor, Typed, Up, Down, Settle, Close, Open}
use Rattle.replay_script.specs.declared.words.Word.TheVariants.{Cut, Show, File, Held, Link, Pass, Copy, Sync, Unlink, Outside}
use Rattle.replay_script.specs.declared.words.Word.TheVariants.{Sweep, Report, Disk, Crash, Restart, Stop, Begin, Hear, End}
use Rattle.replay_script.specs.declared.words.TheConstants.{WORDS}

-- a word's name, and the forms of its arguments
pub record Row : Type 0 where
  pub name : List ℕ
  pub forms : List Form

-- a row for each word
abbrev pub row_of : Word → Row
row_of Daemon = record { name = codes "daemon"; forms = Number ∷ [] }
row_of Load = record { name = codes "load"; forms = Number ∷ Text ∷ Hexadecimal ∷ [] }
row_of Editor = record { name = codes "editor"; forms = Number ∷ Number ∷ Path ∷ Text ∷ [] }
row_of Typed = record { name = codes "type"; forms = Number ∷ Number ∷ Number ∷ Text ∷ [] }
row_of Up = record { name = codes "up"; forms = Number ∷ [] }
row_of Down = record { name = codes "down"; forms = Number ∷ [] }
row_of Settle = record { name = codes "settle"; forms = Number ∷ [] }
row_of Close = record { name = codes "close"; forms = Number ∷ [] }
row_of Open = record { name = codes "open"; forms = Number ∷ [] }
row_of Cut = record { name = codes "cut"; forms = Number ∷ [] }
row_of Show = record { name = codes "show"; forms = Number ∷ [] }
row_of File = record { name = codes "file"; forms = Number ∷ Path ∷ [] }
row_of Held = record { name = codes "held"; forms = Number ∷ [] }
row_of Link = record { name = codes "link"; forms = Number ∷ Number ∷ [] }
row_of Pass = record { name = codes "pass"; forms = Number ∷ Number ∷ Number ∷ [] }
row_of Copy = record { name = codes "copy"; forms = Number ∷ Number ∷ Number ∷ [] }
row_of Sync = record { name = codes "sync"; forms = Number ∷ Number ∷ Number ∷ [] }
row_of Unlink = record { name = codes "unlink"; forms = Number ∷ Number ∷ [] }
row_of Outside = record { name = codes "outside"; forms = Number ∷ Path ∷ Contents ∷ [] }
row_of Sweep = record { name = codes "sweep"; forms = Number ∷ [] }
row_of Report = record { name = codes "report"; forms = Number ∷ Path ∷ Contents ∷ [] }
row_of Disk = record { name = codes "disk"; forms = Number ∷ Path ∷ [] }
row_of Crash = record { name = codes "crash"; forms = Number ∷ [] }
row_of Restart = record { name = codes "restart"; forms = Number ∷ [] }
row_of Stop = record { name = codes "stop"; forms = Number ∷ Number ∷ StopMode ∷ [] }
row_of Begin = record { name = codes "begin"; forms = Number ∷ Number ∷ Speaks ∷ [] }
row_of Hear = record { name = codes "hear"; forms = Number ∷ Number ∷ Hexadecimal ∷ [] }
row_of End = record { name = codes "end"; forms = Number ∷ Number ∷ [] }

-- the forms of a word's arguments
abbrev pub forms_of : Word → List Form
forms_of word = (row_of word).forms

-- its name
abbrev pub name_of : Word → List ℕ
name_of word = (row_of word).name

-- the table of names, each with the place of its word in `WORDS` as its number
abbrev pub names : List (ℕ × List ℕ)
names = enumerate_from 0 (map name_of WORDS)

-- the word of a name
abbrev pub word_named : List ℕ → Option Word
word_named name = option_and_then (λ number. slice_get WORDS number) (number_of name names)

-- the move that begins a connection
abbrev pub begun : Speaker → ℕ → ℕ → Move
begun Speaker.Editor daemon conn = Move.BeginEditor daemon conn
begun Speaker.Peer daemon conn = Move.BeginPeer daemon conn

-- the move that a word asks for with these arguments
abbrev pub asked : (word : Word) → Values (forms_of word) → Move
asked Daemon (d, _) = Move.Daemon d
asked Load (d, (base, (disk, _))) = Move.Load d base disk
asked Editor (e, (d, (path, (text, _)))) = Move.Editor e d path text
asked Typed (e, (place, (gone, (text, _)))) = Move.Typed e place gone text
asked Up (e, _) = Move.Up e
asked Down (e, _) = Move.Down e
asked Settle (e, _) = Move.Settle e
asked Close (e, _) = Move.Close e
asked Open (e, _) = Move.Open e
asked Cut (e, _) = Move.Cut e
asked Show (e, _) = Move.Show e
asked File (d, (path, _)) = Move.File d path
asked Held (d, _) = Move.Held d
asked Link (a, (b, _)) = Move.Link a b
asked Pass (a, (b, (k, _))) = Move.Pass a b k
asked Copy (a, (b, (k, _))) = Move.Copy a b k
asked Sync (a, (b, (n, _))) = Move.Sync a b n
asked Unlink (a, (b, _)) = Move.Unlink a b
asked Outside (d, (path, (content, _))) = Move.Outside d path content
asked Sweep (d, _) = Move.Sweep d
asked Report (d, (path, (content, _))) = Move.Report d path content
asked Disk (d, (path, _)) = Move.Disk d path
asked Crash (d, _) = Move.Crash d
asked Restart (d, _) = Move.Restart d
asked Stop (d, (k, (mode, _))) = Move.Stop d k mode
asked Begin (d, (conn, (speaker, _))) = begun speaker d conn
asked Hear (d, (conn, (bytes, _))) = Move.Hear d conn bytes
asked End (d, (conn, _)) = Move.End d conn

-- the forms whose values are kept in memory that is asked for
abbrev pub is_kept_form : Form → Bool
is_kept_form Number = false
is_kept_form Path = true
is_kept_form Text = true
is_kept_form Contents = true
is_kept_form StopMode = false
is_kept_form Hexadecimal = true
is_kept_form Speaks = false

-- the moves of the word have a path, a text or bytes
abbrev pub takes_memory : Word → Bool
takes_memory word = list_any is_kept_form (forms_of word)
