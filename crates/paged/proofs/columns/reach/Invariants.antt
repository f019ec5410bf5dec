use Rattle.std.proofs.Common.{◌≡◌, ◌+◌, ◌<◌, take}
use Rattle.std.specs.List.{sum}
use Rattle.paged.proofs.columns.reach.Given as goal

-- the numbers so far were taken from the sum
abbrev pub invariant-loop-index : goal.invariant-loop-index
invariant-loop-index l = record {
  reached : sum (take l.index l.column) + l.offset ≡ l.n;
  behind : 0 < l.index → 0 < l.offset;
}
