use Rattle.std.proofs.Common.{◌≡◌, true}
use Rattle.text_bench.proofs.frames.run.Given as goal

-- no memory was wanting so far
abbrev pub invariant-loop-part : goal.invariant-loop-part
invariant-loop-part g l = l.reader.live ≡ true
