-- How the playing of a line, of a piece of a script and of a whole script ends, by what was taken and written.
use Rattle.std.specs.Prelude.{◌≡◌, ◌≢◌, ℕ, ◌+◌, ◌≤◌, ◌<◌, List, [], ◌∷◌, ◌++◌, length, take, min, Some, None, Result, Ok, Err, String, string_bytes}
use Rattle.outside.specs.Faults.{Rose}
use Rattle.outside.specs.SourceMeaning.{SourceMeaning}
use Rattle.outside.specs.SinkMeaning.{SinkMeaning}
use Rattle.outside.specs.declared.sources.Took.{Took}
use Rattle.std.specs.Io.KnownBytes.{prepend_known, append_known}
use Rattle.kept_world.specs.Tie.{Ties}
use Rattle.daemon_world.specs.Worlds.{WorldView}
use Rattle.plain_world.specs.Base.{script_base}
use Rattle.plain_world.specs.Handling.{Played}
use Rattle.plain_world.specs.RawFrames.{Reader}
use Rattle.plain_world.specs.World.{World}
use Rattle.replay_script.specs.declared.moves.Move.{Move}
use Rattle.replay.specs.Script.{Run, Lines, bytes_ask, lines_of, line_played, not_started, run_on, run_over, most_bytes}
use Rattle.replay.specs.Table.{HasEnded, GoesOn, IsPlayedTo, IsRefusedAt, IsCutOff}
use Rattle.replay.specs.declared.faults.ReplayFault.{ReplayFault}
use Rattle.replay.specs.declared.faults.ReplayFault.TheVariants.{NotAMove, NotPossible, NoLineEnd, SourceFailed, SinkFailed, Memory, TooLong, Words}
use Rattle.replay.specs.declared.player.Player.{Player}

-- a world that is played stands for this one of the plain machine
abbrev pub StandsFor : WorldView → World → Type 0
StandsFor world w = Ties script_base world.kept w

-- a front of these bytes was written, and nothing else
abbrev pub WroteFront : SinkMeaning → SinkMeaning → List ℕ → Type 0
WroteFront old new bytes = (n : ℕ) × (new.written ≡ append_known old.written (take n bytes))

-- a front of these bytes was written that is not all of them
pub record WroteShort (old new : SinkMeaning) (bytes : List ℕ) : Type 0 where
  pub count : ℕ
  pub short : count < length bytes
  pub written : new.written ≡ append_known old.written (take count bytes)

-- what the writing of some bytes does, by its end
abbrev pub WroteSo : SinkMeaning → SinkMeaning → List ℕ → Result (Unit {0}) ReplayFault → Type 0
WroteSo old new bytes (Ok done) = new.written ≡ append_known old.written bytes
WroteSo old new bytes (Err SinkFailed) = WroteShort old new bytes × Rose old.faults new.faults
WroteSo old new bytes (Err Memory) = WroteFront old new bytes
WroteSo old new bytes (Err cause) = ⊥

-- the count of a sink's faults stands still unless the sink failed
pub record CountsFaults (old new : SinkMeaning) (result : Result (Unit {0}) ReplayFault) : Type 0 where
  pub later : old.faults ≤ new.faults
  pub kept : (result ≡ Err SinkFailed → ⊥) → new.faults ≡ old.faults

-- the line asks for a move
pub record AsksForMove (line : List ℕ) : Type 0 where
  pub moved : Move
  pub asks : bytes_ask line ≡ Some (Some moved)

-- what a line prints, where it can be played
abbrev pub printed_by : Result Played ReplayFault → List ℕ
printed_by (Err cause) = []
printed_by (Ok played) = played.printed

-- the line was played, and the world is the next one
pub record IsPlayedAs (reader : Reader) (w : World) (world' : WorldView) (line printed : List ℕ) : Type 0 where
  pub played : Played
  pub is : line_played reader w line ≡ Ok played
  pub tied : StandsFor world' played.world
  pub prints : printed ≡ played.printed

-- why a line was not played
abbrev pub NotPlayed : Reader → World → List ℕ → ReplayFault → Type 0
NotPlayed reader w line NotAMove = line_played reader w line ≡ Err NotAMove
NotPlayed reader w line NotPossible = line_played reader w line ≡ Err NotPossible
NotPlayed reader w line Memory = AsksForMove line
NotPlayed reader w line cause = ⊥

-- what the playing of one line gives to be printed, by its end
abbrev pub GivesLine : {A : Type 0} → Reader → World → WorldView → List ℕ → Result (String A) ReplayFault → Type 0
GivesLine reader w world' line (Ok printed) = IsPlayedAs reader w world' line (string_bytes printed)
GivesLine reader w world' line (Err cause) = NotPlayed reader w line cause

-- the line was played, and all that it prints was written
pub record WroteLine (reader : Reader) (w : World) (world' : WorldView) (old new : SinkMeaning) (line : List ℕ) : Type 0 where
  pub played : Played
  pub is : line_played reader w line ≡ Ok played
  pub tied : StandsFor world' played.world
  pub written : new.written ≡ append_known old.written played.printed

-- what the playing of one line does to the world and the sink, by its end
abbrev pub LineSo : Reader → World → WorldView → SinkMeaning → SinkMeaning → List ℕ → Result (Unit {0}) ReplayFault → Type 0
LineSo reader w world' old new line (Ok done) = WroteLine reader w world' old new line
LineSo reader w world' old new line (Err NotAMove) =
    (line_played reader w line ≡ Err NotAMove) × (new.written ≡ old.written)
LineSo reader w world' old new line (Err NotPossible) =
    (line_played reader w line ≡ Err NotPossible) × (new.written ≡ old.written)
LineSo reader w world' old new line (Err SinkFailed) =
    WroteShort old new (printed_by (line_played reader w line)) × Rose old.faults new.faults
LineSo reader w world' old new line (Err Memory) =
    WroteFront old new (printed_by (line_played reader w line)) × AsksForMove line
LineSo reader w world' old new line (Err cause) = ⊥

-- the playing of one line
pub record PlaysLine (world world' : WorldView) (old new : SinkMeaning) (line : List ℕ) (result : Result (Unit {0}) ReplayFault) : Type 0 where
  pub counts : CountsFaults old new result
  pub so : (reader : Reader) (w : World) → StandsFor world w → LineSo reader w world' old new line result

-- the machine in a world behind so many lines, with nothing printed yet
abbrev pub run_at : World → ℕ → Run
run_at w line = record { world = w; printed = []; line = line; stop = None }

-- what the first of the lines prints in this world, if there is one
abbrev pub printed_next : Reader → World → List (List ℕ) → List ℕ
printed_next reader w [] = []
printed_next reader w (line ∷ lines) = printed_by (line_played reader w line)

-- the lines `done` were played and their output written, and then a front of the output of the line behind them
pub record StopsShort (reader : Reader) (start : Run) (lines done : List (List ℕ)) (old new : SinkMeaning) : Type 0 where
  pub left : List (List ℕ)
  pub lines_are : lines ≡ done ++ left
  pub going : (run_on reader start done).stop ≡ None
  pub count : ℕ
  pub written : new.written ≡ append_known old.written ((run_on reader start done).printed ++ take count (printed_next reader (run_on reader start done).world left))

-- all of these lines were played, and their output written
pub record PlaysAll (reader : Reader) (start : Run) (player' : Player) (old new : SinkMeaning) (lines : Lines) : Type 0 where
  pub going : (run_on reader start lines.whole).stop ≡ None
  pub tied : StandsFor player'.world (run_on reader start lines.whole).world
  pub pending : player'.pending.items ≡ lines.rest
  pub line : player'.line ≡ (run_on reader start lines.whole).line
  pub written : new.written ≡ append_known old.written (run_on reader start lines.whole).printed

-- one of these lines cannot be played for this cause, and the output of those before it was written
pub record PlaysToRefused (reader : Reader) (start : Run) (player' : Player) (old new : SinkMeaning) (lines : Lines) (cause : ReplayFault) : Type 0 where
  pub stopped : (run_on reader start lines.whole).stop ≡ Some cause
  pub line : player'.line ≡ (run_on reader start lines.whole).line + 1
  pub written : new.written ≡ append_known old.written (run_on reader start lines.whole).printed

-- the sink failed, where not all was written that the line behind those played prints
pub record PlaysToFailedSink (reader : Reader) (start : Run) (player' : Player) (old new : SinkMeaning) (lines : Lines) : Type 0 where
  pub done : List (List ℕ)
  pub stops : StopsShort reader start lines.whole done old new
  pub short : stops.count < length (printed_next reader (run_on reader start done).world stops.left)
  pub line : player'.line ≡ (run_on reader start done).line + 1
  pub rose : Rose old.faults new.faults

-- memory ran out at the line behind those played, or for the bytes behind the last LF
pub record PlaysToMemory (reader : Reader) (start : Run) (player' : Player) (old new : SinkMeaning) (lines : Lines) : Type 0 where
  pub done : List (List ℕ)
  pub stops : StopsShort reader start lines.whole done old new
  pub line : player'.line ≡ (run_on reader start done).line + min 1 (length stops.left)

-- how the lines of a piece were played, with the line begun in front: the lines, and the run over them
abbrev pub PieceSo : Reader → Run → Player → SinkMeaning → SinkMeaning → Lines → Result (Unit {0}) ReplayFault → Type 0
PieceSo reader start player' old new lines (Ok done) = PlaysAll reader start player' old new lines
PieceSo reader start player' old new lines (Err NotAMove) = PlaysToRefused reader start player' old new lines NotAMove
PieceSo reader start player' old new lines (Err NotPossible) = PlaysToRefused reader start player' old new lines NotPossible
PieceSo reader start player' old new lines (Err SinkFailed) = PlaysToFailedSink reader start player' old new lines
PieceSo reader start player' old new lines (Err Memory) = PlaysToMemory reader start player' old new lines
PieceSo reader start player' old new lines (Err cause) = ⊥

-- the playing of one piece of a script, as it was taken from the source
pub record PlaysPiece (player player' : Player) (old new : SinkMeaning) (piece : List ℕ) (result : Result (Unit {0}) ReplayFault) : Type 0 where
  pub counts : CountsFaults old new result
  pub few_lines : player'.line ≤ player.line + length piece
  pub so : (reader : Reader) (w : World) → StandsFor player.world w
      → PieceSo reader (run_at w player.line) player' old new (lines_of (player.pending.items ++ piece)) result

-- where the source has ended, the bytes begun are a line without LF
abbrev pub EndsLines : Player → Player → Result (Unit {0}) ReplayFault → Type 0
EndsLines player player' (Ok done) = (player.pending.items ≡ []) × (player'.line ≡ player.line)
EndsLines player player' (Err NoLineEnd) = (player.pending.items ≢ []) × (player'.line ≡ player.line + 1)
EndsLines player player' (Err cause) = ⊥

-- the bytes that a source gave between two moments: those in front of what it has left
abbrev pub GaveBytes : SourceMeaning → SourceMeaning → List ℕ → Type 0
GaveBytes old new bytes = old.left ≡ prepend_known bytes new.left

-- the whole output of the lines of these bytes was written
abbrev pub WroteOutput : Reader → SinkMeaning → SinkMeaning → List ℕ → Type 0
WroteOutput reader old new bytes = new.written ≡ append_known old.written (run_over reader bytes).printed

-- The ends of a whole source, by the bytes taken, with the number of the last line begun.

-- the source has ended, and each line was played
pub record EndsPlayed (reader : Reader) (s' : SourceMeaning) (k k' : SinkMeaning) (taken : List ℕ) (line : ℕ) : Type 0 where
  pub played : IsPlayedTo reader taken line
  pub whole : (lines_of taken).rest ≡ []
  pub output : WroteOutput reader k k' taken
  pub ended : HasEnded s'
  pub room : length taken < most_bytes

-- a line cannot be played, for this cause
pub record EndsRefused (reader : Reader) (s s' : SourceMeaning) (k k' : SinkMeaning) (taken : List ℕ) (cause : ReplayFault) (line : ℕ) : Type 0 where
  pub refused : IsRefusedAt reader taken cause line
  pub output : WroteOutput reader k k' taken
  pub goes_on : GoesOn s s'

-- the source has ended within a line
pub record EndsCutOff (reader : Reader) (s' : SourceMeaning) (k k' : SinkMeaning) (taken : List ℕ) (line : ℕ) : Type 0 where
  pub cut : IsCutOff reader taken line
  pub output : WroteOutput reader k k' taken
  pub ended : HasEnded s'

-- the source failed
pub record EndsAtSource (reader : Reader) (s s' : SourceMeaning) (k k' : SinkMeaning) (taken : List ℕ) (line : ℕ) : Type 0 where
  pub played : IsPlayedTo reader taken line
  pub output : WroteOutput reader k k' taken
  pub rose : Rose s.faults s'.faults
  pub goes_on : GoesOn s s'
  pub room : length taken < most_bytes

-- the sink failed, where not all was written that the line behind those played prints
pub record EndsAtSink (reader : Reader) (s s' : SourceMeaning) (k k' : SinkMeaning) (taken : List ℕ) (line : ℕ) : Type 0 where
  pub done : List (List ℕ)
  pub stops : StopsShort reader not_started (lines_of taken).whole done k k'
  pub short : stops.count < length (printed_next reader (run_on reader not_started done).world stops.left)
  pub last : line ≡ (run_on reader not_started done).line + 1
  pub rose : Rose k.faults k'.faults
  pub goes_on : GoesOn s s'

-- memory ran out at the line behind those played, or behind the last of them
pub record EndsForMemory (reader : Reader) (s s' : SourceMeaning) (k k' : SinkMeaning) (taken : List ℕ) (line : ℕ) : Type 0 where
  pub done : List (List ℕ)
  pub stops : StopsShort reader not_started (lines_of taken).whole done k k'
  pub last : line ≡ (run_on reader not_started done).line + min 1 (length stops.left)
  pub goes_on : GoesOn s s'

-- the most bytes were taken, and the source has not answered its end since
pub record EndsTooLong (reader : Reader) (s s' : SourceMeaning) (k k' : SinkMeaning) (taken : List ℕ) (line : ℕ) : Type 0 where
  pub played : IsPlayedTo reader taken line
  pub output : WroteOutput reader k k' taken
  pub full : length taken ≡ most_bytes
  pub goes_on : GoesOn s s'

-- how the playing of a source ends
abbrev pub EndedSo : Reader → SourceMeaning → SourceMeaning → SinkMeaning → SinkMeaning → List ℕ → Result (Unit {0}) ReplayFault → ℕ → Type 0
EndedSo reader s s' k k' taken (Ok done) line = EndsPlayed reader s' k k' taken line
EndedSo reader s s' k k' taken (Err Words) line = ⊥
EndedSo reader s s' k k' taken (Err NotAMove) line = EndsRefused reader s s' k k' taken NotAMove line
EndedSo reader s s' k k' taken (Err NotPossible) line = EndsRefused reader s s' k k' taken NotPossible line
EndedSo reader s s' k k' taken (Err NoLineEnd) line = EndsCutOff reader s' k k' taken line
EndedSo reader s s' k k' taken (Err SourceFailed) line = EndsAtSource reader s s' k k' taken line
EndedSo reader s s' k k' taken (Err SinkFailed) line = EndsAtSink reader s s' k k' taken line
EndedSo reader s s' k k' taken (Err Memory) line = EndsForMemory reader s s' k k' taken line
EndedSo reader s s' k k' taken (Err TooLong) line = EndsTooLong reader s s' k k' taken line

-- the playing of a whole source: what was taken, and how it ended
pub record EndsSource (s s' : SourceMeaning) (k k' : SinkMeaning) (result : Result (Unit {0}) ReplayFault) (line : ℕ) : Type 0 where
  pub taken : List ℕ
  pub gave : GaveBytes s s' taken
  pub few : length taken ≤ most_bytes
  pub source_kept : (result ≡ Err SourceFailed → ⊥) → s'.faults ≡ s.faults
  pub sink_kept : (result ≡ Err SinkFailed → ⊥) → k'.faults ≡ k.faults
  pub so : (reader : Reader) → EndedSo reader s s' k k' taken result line

-- a read gave at most so many bytes
abbrev pub IsWithin : ℕ → Took → Type 0
IsWithin room (Took.Bytes n) = n ≤ room
IsWithin room Took.Ended = Unit {0}
IsWithin room Took.Failed = Unit {0}
