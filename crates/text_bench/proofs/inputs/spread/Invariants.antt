use Rattle.std.proofs.Common.{◌≡◌, ◌+◌}
use Rattle.delta.specs.Cells.{base_length}
use Rattle.text_bench.proofs.inputs.spread.Given as goal

-- what is built and what is left are the whole base
abbrev pub invariant-loop : goal.invariant-loop
invariant-loop l = base_length l.builder + l.left ≡ l.size
