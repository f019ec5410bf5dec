-- What the program says of the end of its replay.
use Rattle.std.specs.Prelude.{ℕ, List, ◌++◌, codes}
use Rattle.std.specs.Fmt.{decimal}
use Rattle.std.specs.declared.io.ErrorKind.{ErrorKind}
use Rattle.std.specs.declared.io.ErrorKind.TheVariants.{OutOfMemory}
use Rattle.replay.specs.declared.faults.ReplayFault.{ReplayFault}
use Rattle.replay.specs.declared.faults.ReplayFault.TheVariants.{Memory, Words}
use Rattle.replay.specs.declared.run.ReplayEnd.{ReplayEnd}

-- the line on standard error, without its line end
abbrev pub end_line : ReplayEnd → List ℕ
end_line end = codes "teamreplay: status " ++ decimal end.status ++ codes " at line " ++ decimal end.line

-- what ends the replay where the words of the command line cannot be read: want of memory, or a word that is no text
abbrev pub fault_unread : ErrorKind → ReplayFault
fault_unread OutOfMemory = Memory
fault_unread _ = Words
