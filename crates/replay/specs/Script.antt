-- A script as a whole: its bytes, its lines, and the run of the plain machine over them.
use Rattle.std.specs.Prelude.{ℕ, ◌+◌, ◌==◌, Bool, not, List, [], ◌∷◌, ◌++◌, fold, Option, Some, None, Result, Ok, Err, if◌then◌else◌}
use Rattle.std.specs.Str.{is_utf8}
use Rattle.plain_world.specs.Base.{script_base}
use Rattle.plain_world.specs.Handling.{Played}
use Rattle.plain_world.specs.Playing.{quietly}
use Rattle.plain_world.specs.RawFrames.{Reader}
use Rattle.plain_world.specs.Step.{played}
use Rattle.plain_world.specs.World.{World, beginning}
use Rattle.replay_script.specs.Lines.{line_asks}
use Rattle.replay_script.specs.declared.moves.Move.{Move}
use Rattle.replay.specs.declared.faults.ReplayFault.{ReplayFault}
use Rattle.replay.specs.declared.faults.ReplayFault.TheVariants.{NotAMove, NotPossible}
use Rattle.replay.specs.declared.playing.TheConstants.{MOST_BYTES}

-- the lines that end with LF, each without it, and the bytes behind the last LF
pub record Lines : Type 0 where
  pub whole : List (List ℕ)
  pub rest : List ℕ

abbrev pub is_inner : ℕ → Bool
is_inner b = not (b == 10)

-- a byte other than LF stands in front of the first line of what follows
abbrev pub put_before : ℕ → List (List ℕ) → List ℕ → Lines
put_before b [] rest = record { whole = []; rest = b ∷ rest }
put_before b (line ∷ lines) rest = record { whole = (b ∷ line) ∷ lines; rest = rest }

-- a text's lines, cut at each LF
abbrev pub lines_of : List ℕ → Lines
lines_of [] = record { whole = []; rest = [] }
lines_of (b ∷ bytes) =
    let l = lines_of bytes in
    if b == 10 then record { whole = [] ∷ l.whole; rest = l.rest } else put_before b l.whole l.rest

-- what a line asks for, by its bytes: bytes that are not UTF-8 are outside the grammar
abbrev pub bytes_ask : List ℕ → Option (Option Move)
bytes_ask line = if is_utf8 line then line_asks line else None

abbrev pub or_not_possible : Option Played → Result Played ReplayFault
or_not_possible None = Err NotPossible
or_not_possible (Some played) = Ok played

-- a line that asks for nothing prints nothing, and leaves the world as it is
abbrev pub answer_played : Reader → World → Option Move → Result Played ReplayFault
answer_played reader w None = Ok (quietly w)
answer_played reader w (Some moved) = or_not_possible (played script_base reader w moved)

abbrev pub asked_played : Reader → World → Option (Option Move) → Result Played ReplayFault
asked_played reader w None = Err NotAMove
asked_played reader w (Some answer) = answer_played reader w answer

-- what the line does in this world, or why it cannot be played: it is outside the grammar, or asks for a move that is not possible
abbrev pub line_played : Reader → World → List ℕ → Result Played ReplayFault
line_played reader w line = asked_played reader w (bytes_ask line)

-- how far the machine has come: the world, what was printed, how many lines were played, and why the line behind them cannot be
-- played, where the machine has stopped there
pub record Run : Type 0 where
  pub world : World
  pub printed : List ℕ
  pub line : ℕ
  pub stop : Option ReplayFault

-- the machine before the first line
abbrev pub not_started : Run
not_started = record { world = beginning; printed = []; line = 0; stop = None }

-- a line that cannot be played stops the machine
abbrev pub moved_on : Run → Result Played ReplayFault → Run
moved_on run (Err cause) = record run { stop = Some cause }
moved_on run (Ok next) = record { world = next.world; printed = run.printed ++ next.printed; line = run.line + 1; stop = None }

abbrev pub goes_on : Reader → Option ReplayFault → Run → List ℕ → Run
goes_on reader (Some cause) run line = run
goes_on reader None run line = moved_on run (line_played reader run.world line)

-- the machine at the next line
abbrev pub next : Reader → Run → List ℕ → Run
next reader run line = goes_on reader run.stop run line

-- the run over some lines
abbrev pub run_on : Reader → Run → List (List ℕ) → Run
run_on reader run lines = fold (next reader) run lines

-- the run over the whole lines of these bytes
abbrev pub run_over : Reader → List ℕ → Run
run_over reader bytes = run_on reader not_started (lines_of bytes).whole

-- how many bytes of a script are taken at most
abbrev pub most_bytes : ℕ
most_bytes = MOST_BYTES
