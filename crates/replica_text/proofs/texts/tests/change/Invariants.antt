use Rattle.std.proofs.Common.{◌*◌, ◌≤◌}
use Rattle.delta.specs.Cells.{base_length}
use Rattle.replica_text.proofs.texts.tests.change.Given as goal

-- each time at most five characters are covered
abbrev pub invariant-loop-done : goal.invariant-loop-done
invariant-loop-done l = base_length l.builder ≤ 5 * l.done
