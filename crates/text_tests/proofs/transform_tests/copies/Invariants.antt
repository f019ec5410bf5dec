use Rattle.std.proofs.Common.{◌≡◌}
use Rattle.delta.specs.Cells.{base_length}
use Rattle.transform.specs.Carried.{IsChain, chain_end}
use Rattle.text_tests.proofs.transform_tests.copies.Given as goal

-- the copies so far are a chain, and leave the length
abbrev pub invariant-loop-done : goal.invariant-loop-done
invariant-loop-done l = record {
  chain : IsChain (base_length l.delta) l.list.items;
  size : chain_end (base_length l.delta) l.list.items ≡ base_length l.delta;
}
