-- What each status of a replay says of the bytes that were taken from the script and written. All of it holds for each reading of
-- streams by the grammar of frames; there is one, and no other.
use Rattle.std.specs.Prelude.{◌≡◌, ◌≢◌, ℕ, ◌+◌, ◌-◌, ◌≤◌, true, List, [], ◌++◌, length, take, Some, None, IfSome}
use Rattle.outside.specs.SourceMeaning.{SourceMeaning}
use Rattle.outside.specs.SinkMeaning.{SinkMeaning}
use Rattle.plain_world.specs.RawFrames.{Reader}
use Rattle.replay.specs.Script.{Run, lines_of, not_started, run_on, run_over}
use Rattle.replay.specs.declared.faults.ReplayFault.{ReplayFault}
use Rattle.replay.specs.declared.faults.ReplayFault.TheVariants.{NoLineEnd}

-- a source that tells its bytes gave these between two moments
pub record WasGiven (old new : SourceMeaning) (bytes : List ℕ) : Type 0 where
  pub left : List ℕ
  pub before : old.left ≡ Some (bytes ++ left)
  pub after : new.left ≡ Some left

-- these bytes were written between two moments to a sink that tells its bytes
pub record WasWritten (old new : SinkMeaning) (bytes : List ℕ) : Type 0 where
  pub front : List ℕ
  pub before : old.written ≡ Some front
  pub after : new.written ≡ Some (front ++ bytes)

-- a source has ended: it has said so, and where it tells, nothing is left
abbrev pub HasEnded : SourceMeaning → Type 0
HasEnded source = (source.ended ≡ true) × IfSome source.left (λ left. left ≡ [])

-- whether the source has answered its end is as it was
abbrev pub GoesOn : SourceMeaning → SourceMeaning → Type 0
GoesOn old new = new.ended ≡ old.ended

-- all whole lines of these bytes can be played, and this is the number of the last
pub record IsPlayedTo (reader : Reader) (bytes : List ℕ) (line : ℕ) : Type 0 where
  pub going : (run_over reader bytes).stop ≡ None
  pub last : line ≡ (run_over reader bytes).line

-- each line of the script can be played, and each ends with LF
pub record IsPlayable (reader : Reader) (script : List ℕ) : Type 0 where
  pub going : (run_over reader script).stop ≡ None
  pub ended : (lines_of script).rest ≡ []

-- the run over the whole lines of these bytes stops for this cause, and the line is the one behind those that it played
pub record IsRefusedAt (reader : Reader) (bytes : List ℕ) (cause : ReplayFault) (line : ℕ) : Type 0 where
  pub stopped : (run_over reader bytes).stop ≡ Some cause
  pub first : line ≡ (run_over reader bytes).line + 1

-- all whole lines of these bytes can be played, bytes stand behind the last LF, and the line is the one behind those played
pub record IsCutOff (reader : Reader) (bytes : List ℕ) (line : ℕ) : Type 0 where
  pub going : (run_over reader bytes).stop ≡ None
  pub behind : (lines_of bytes).rest ≢ []
  pub first : line ≡ (run_over reader bytes).line + 1

-- a line was refused for this cause: it has no LF and the source has ended, or it cannot be played and the source has answered no end
abbrev pub IsRefusedFor : Reader → SourceMeaning → SourceMeaning → List ℕ → ReplayFault → ℕ → Type 0
IsRefusedFor reader old new bytes NoLineEnd line = IsCutOff reader bytes line × HasEnded new
IsRefusedFor reader old new bytes cause line = IsRefusedAt reader bytes cause line × GoesOn old new

-- the run over the first so many whole lines of these bytes
abbrev pub run_to : Reader → ℕ → List ℕ → Run
run_to reader lines bytes = run_on reader not_started (take lines (lines_of bytes).whole)

-- what was written has all that the whole lines before this one print, and a front of what this one prints
pub record IsShortOf (reader : Reader) (bytes written : List ℕ) (line : ℕ) : Type 0 where
  pub begun : line ≤ length (lines_of bytes).whole
  pub count : ℕ
  pub front : written ≡ take count (run_to reader line bytes).printed
  pub enough : length (run_to reader (line - 1) bytes).printed ≤ count

-- what was written is a front of what the machine prints
abbrev pub IsFrontOf : List ℕ → List ℕ → Type 0
IsFrontOf written printed = (count : ℕ) × (written ≡ take count printed)

-- all whole lines before this one can be played; it is a whole line, or 0 where no line is whole
pub record IsLineBegun (reader : Reader) (bytes : List ℕ) (line : ℕ) : Type 0 where
  pub within : line ≤ length (lines_of bytes).whole
  pub going : (run_to reader (line - 1) bytes).stop ≡ None
  pub none : line ≡ 0 → (lines_of bytes).whole ≡ []
