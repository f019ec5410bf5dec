use Rattle.std.proofs.Common.{◌*◌, ◌≤◌}
use Rattle.delta.specs.Cells.{base_length}
use Rattle.text_tests.proofs.delta_tests.replacing_each.Given as goal

-- each time at most 256 characters are covered
abbrev pub invariant-loop-done : goal.invariant-loop-done
invariant-loop-done l = base_length l.builder ≤ 256 * l.done
