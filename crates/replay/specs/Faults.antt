-- The causes for which a replay ends: which of them a cause from below is, and the status of each.
use Rattle.std.specs.Prelude.{ℕ, Option, Some, None}
use Rattle.replay_script.specs.declared.faults.LineFault.{LineFault}
use Rattle.replay_script.specs.declared.faults.LineFault.TheVariants as line
use Rattle.daemon_world.specs.declared.worlds.PlayEnd.{PlayEnd}
use Rattle.daemon_world.specs.declared.worlds.PlayEnd.TheVariants as play
use Rattle.replay.specs.declared.faults.ReplayFault.{ReplayFault}
use Rattle.replay.specs.declared.faults.ReplayFault.TheVariants as fault

-- why a line is not read
abbrev pub fault_of_line : LineFault → ReplayFault
fault_of_line line.NotAMove = fault.NotAMove
fault_of_line line.Memory = fault.Memory

-- why a move is not played
abbrev pub fault_of_play : PlayEnd → ReplayFault
fault_of_play play.NotPossible = fault.NotPossible
fault_of_play play.Memory = fault.Memory

-- the status of the program, by what ended the replay; 0 where nothing did before the end of the script
abbrev pub status_of : Option ReplayFault → ℕ
status_of None = 0
status_of (Some fault.Words) = 1
status_of (Some fault.NotAMove) = 2
status_of (Some fault.NotPossible) = 2
status_of (Some fault.NoLineEnd) = 2
status_of (Some fault.SourceFailed) = 4
status_of (Some fault.SinkFailed) = 5
status_of (Some fault.Memory) = 6
status_of (Some fault.TooLong) = 7
