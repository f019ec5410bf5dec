use Rattle.std.proofs.Common.{◌<◌, ◌++◌, length}
use Rattle.journal_format.specs.Image.{mark}
use Rattle.journal_format.specs.Progress.{IsReadTo}
use Rattle.journal_format.proofs.groups.read_groups.Given as goal

-- good groups stand before the gate that is reached
abbrev pub invariant-loop-behind : goal.invariant-loop-behind
invariant-loop-behind l =
    IsReadTo (mark ++ l.bytes) l.progress.records.items l.progress.gates.items l.progress.end l.rest × (0 < length l.rest)

abbrev pub decreases-loop-behind : goal.decreases-loop-behind
decreases-loop-behind l = length l.rest
