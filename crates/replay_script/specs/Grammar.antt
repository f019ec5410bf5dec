-- The grammar of scripts: which move a line asks for, and which line is written for a move. It is this project's own.
-- A line is given by its bytes, which are UTF-8, without its LF.
use Rattle.std.specs.Prelude.{◌≡◌, ℕ, ◌^◌, ◌<◌, ◌==◌, Bool, true, false, ◌&&◌, ◌||◌, List, [], ◌∷◌, ◌++◌, length, map, nat_le, None, codes, encode_utf8_all, if◌then◌else◌}
use Rattle.std.specs.Char.{is_ascii_digit}
use Rattle.std.specs.Fmt.{decimal}
use Rattle.std.specs.List.{AllZip, join_with_byte, list_all, list_any}
use Rattle.std.specs.Str.{chars, is_utf8}
use Rattle.hex.specs.Hex.{encode_lower, IsBytes}
use Rattle.tt_base.specs.Path.{path_fault}
use Rattle.tt_base.specs.declared.contents.Content.{Content}
use Rattle.tt_base.specs.declared.contents.Content.TheVariants.{Absent, Bytes, Larger}
use Rattle.replay_script.specs.Characters.{space, hash, hyphen, dot, slash, underscore}
use Rattle.replay_script.specs.Texts.{IsText, quoted}
use Rattle.outside.specs.declared.modes.Mode.{Mode}
use Rattle.outside.specs.declared.modes.Mode.TheVariants.{Lost, Kept, Torn}
use Rattle.replay_script.specs.declared.moves.Move.{Move}

-- an argument of a move, by its form: a number, a path, a text, what a folder has at a path, a mode of a stop, bytes in
-- hexadecimal, or a fixed word
pub data Argument : Type 0 where
  Number : ℕ → Argument
  Path : List ℕ → Argument
  Text : List ℕ → Argument
  Contents : Content → Argument
  StopMode : Mode → Argument
  Hexadecimal : List ℕ → Argument
  Fixed : List ℕ → Argument

-- a move as it stands in a line: a word, and the arguments behind it
pub record Call : Type 0 where
  pub word : List ℕ
  pub arguments : List Argument

abbrev pub call : List ℕ → List Argument → Call
call word arguments = record { word = word; arguments = arguments }

-- the table of moves, a row for each
abbrev pub call_of : Move → Call
call_of (Move.Daemon d) = call (codes "daemon") (Number d ∷ [])
call_of (Move.Load d base disk) = call (codes "load") (Number d ∷ Text base ∷ Hexadecimal disk ∷ [])
call_of (Move.Editor e d path text) = call (codes "editor") (Number e ∷ Number d ∷ Path path ∷ Text text ∷ [])
call_of (Move.Typed e place gone text) = call (codes "type") (Number e ∷ Number place ∷ Number gone ∷ Text text ∷ [])
call_of (Move.Up e) = call (codes "up") (Number e ∷ [])
call_of (Move.Down e) = call (codes "down") (Number e ∷ [])
call_of (Move.Settle e) = call (codes "settle") (Number e ∷ [])
call_of (Move.Close e) = call (codes "close") (Number e ∷ [])
call_of (Move.Open e) = call (codes "open") (Number e ∷ [])
call_of (Move.Cut e) = call (codes "cut") (Number e ∷ [])
call_of (Move.Show e) = call (codes "show") (Number e ∷ [])
call_of (Move.File d path) = call (codes "file") (Number d ∷ Path path ∷ [])
call_of (Move.Held d) = call (codes "held") (Number d ∷ [])
call_of (Move.Link a b) = call (codes "link") (Number a ∷ Number b ∷ [])
call_of (Move.Pass a b k) = call (codes "pass") (Number a ∷ Number b ∷ Number k ∷ [])
call_of (Move.Copy a b k) = call (codes "copy") (Number a ∷ Number b ∷ Number k ∷ [])
call_of (Move.Sync a b n) = call (codes "sync") (Number a ∷ Number b ∷ Number n ∷ [])
call_of (Move.Unlink a b) = call (codes "unlink") (Number a ∷ Number b ∷ [])
call_of (Move.Outside d path content) = call (codes "outside") (Number d ∷ Path path ∷ Contents content ∷ [])
call_of (Move.Sweep d) = call (codes "sweep") (Number d ∷ [])
call_of (Move.Report d path content) = call (codes "report") (Number d ∷ Path path ∷ Contents content ∷ [])
call_of (Move.Disk d path) = call (codes "disk") (Number d ∷ Path path ∷ [])
call_of (Move.Crash d) = call (codes "crash") (Number d ∷ [])
call_of (Move.Restart d) = call (codes "restart") (Number d ∷ [])
call_of (Move.Stop d k mode) = call (codes "stop") (Number d ∷ Number k ∷ StopMode mode ∷ [])
call_of (Move.BeginEditor d c) = call (codes "begin") (Number d ∷ Number c ∷ Fixed (codes "editor") ∷ [])
call_of (Move.BeginPeer d c) = call (codes "begin") (Number d ∷ Number c ∷ Fixed (codes "peer") ∷ [])
call_of (Move.Hear d c bytes) = call (codes "hear") (Number d ∷ Number c ∷ Hexadecimal bytes ∷ [])
call_of (Move.End d c) = call (codes "end") (Number d ∷ Number c ∷ [])

-- a number of 64 bits: its decimal digits, without leading zeros
pub record IsNumber (argument : List ℕ) (n : ℕ) : Type 0 where
  pub digits : argument ≡ decimal n
  pub small : n < 2 ^ 64

-- a byte that stands in a path without quotes: an ASCII letter or digit, or one of `._-/`
abbrev pub is_bare : ℕ → Bool
is_bare b =
    is_ascii_digit b || (nat_le 65 b && nat_le b 90) || (nat_le 97 b && nat_le b 122) || b == dot || b == underscore || b == hyphen || b == slash

-- a shared path: bare, or in quotes a text whose UTF-8 it is
pub data IsPath (argument path : List ℕ) : Type 0 where
  Bare : argument ≡ path → list_all is_bare path ≡ true → path_fault path ≡ None → IsPath argument path
  Quoted : (text : List ℕ) → IsText argument text → path ≡ encode_utf8_all text → path_fault path ≡ None → IsPath argument path

-- bytes in hexadecimal, one or more: two digits a byte, in lower case (RFC 4648, section 8, in lower case)
pub record IsHexadecimal (argument bytes : List ℕ) : Type 0 where
  pub digits : argument ≡ encode_lower bytes
  pub some : 0 < length bytes
  pub are : IsBytes bytes

-- the bytes of a file: a text whose UTF-8 they are, or in hexadecimal behind the word `hex`
pub data IsFile (argument bytes : List ℕ) : Type 0 where
  InQuotes : (text : List ℕ) → IsText argument text → bytes ≡ encode_utf8_all text → IsFile argument bytes
  InHex : (digits : List ℕ) → argument ≡ codes "hex " ++ digits → IsHexadecimal digits bytes → IsFile argument bytes

-- what a folder has at a path: no file, a file with these bytes, or a larger one
abbrev pub IsContent : List ℕ → Content → Type 0
IsContent argument Absent = argument ≡ codes "absent"
IsContent argument (Bytes bytes) = IsFile argument bytes
IsContent argument Larger = argument ≡ codes "larger"

-- the word of a mode
abbrev pub mode_word : Mode → List ℕ
mode_word Lost = codes "lost"
mode_word Kept = codes "kept"
mode_word Torn = codes "torn"

-- the text spells this argument, by its form
abbrev pub Spells : List ℕ → Argument → Type 0
Spells text (Number n) = IsNumber text n
Spells text (Path path) = IsPath text path
Spells text (Text spelled) = IsText text spelled
Spells text (Contents content) = IsContent text content
Spells text (StopMode mode) = text ≡ mode_word mode
Spells text (Hexadecimal bytes) = IsHexadecimal text bytes
Spells text (Fixed word) = text ≡ word

-- a word and its arguments, with one space between each and the next
abbrev pub spaced : List ℕ → List (List ℕ) → List ℕ
spaced word arguments = join_with_byte space (word ∷ arguments)

-- the line asks for this move: it is the move's word, and behind it texts that spell the move's arguments
pub record AsksFor (line : List ℕ) (moved : Move) : Type 0 where
  pub texts : List (List ℕ)
  pub stands : line ≡ spaced (call_of moved).word texts
  pub spells : AllZip Spells texts (call_of moved).arguments

-- the line asks for nothing: it is empty, or a comment
pub data AsksNothing (line : List ℕ) : Type 0 where
  Empty : line ≡ [] → AsksNothing line
  Comment : (text : List ℕ) → line ≡ hash ∷ text → AsksNothing line

-- the line is outside the grammar
pub record IsOutside (line : List ℕ) : Type 0 where
  pub something : AsksNothing line → ⊥
  pub no_move : (moved : Move) → AsksFor line moved → ⊥

-- a path as it is written: bare where it can be
abbrev pub path_text : List ℕ → List ℕ
path_text path = if list_all is_bare path then path else quoted (chars path)

-- the bytes of a file as they are written: a text where they are UTF-8
abbrev pub file_text : List ℕ → List ℕ
file_text bytes = if is_utf8 bytes then quoted (chars bytes) else codes "hex " ++ encode_lower bytes

abbrev pub content_text : Content → List ℕ
content_text Absent = codes "absent"
content_text (Bytes bytes) = file_text bytes
content_text Larger = codes "larger"

-- how each form of argument is written
abbrev pub written : Argument → List ℕ
written (Number n) = decimal n
written (Path path) = path_text path
written (Text text) = quoted text
written (Contents content) = content_text content
written (StopMode mode) = mode_word mode
written (Hexadecimal bytes) = encode_lower bytes
written (Fixed word) = word

-- the line that is written for a move
abbrev pub line_of : Move → List ℕ
line_of moved = spaced (call_of moved).word (map written (call_of moved).arguments)

-- the forms whose values are kept in memory that is asked for
abbrev pub is_kept : Argument → Bool
is_kept (Number n) = false
is_kept (Path path) = true
is_kept (Text text) = true
is_kept (Contents content) = true
is_kept (StopMode mode) = false
is_kept (Hexadecimal bytes) = true
is_kept (Fixed word) = false

-- the move has a path, a text or bytes
abbrev pub TakesMemory : Move → Type 0
TakesMemory moved = list_any is_kept (call_of moved).arguments ≡ true
