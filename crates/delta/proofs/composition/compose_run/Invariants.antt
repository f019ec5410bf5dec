use Rattle.std.proofs.Common.{◌-◌, ◌≤◌}
use Rattle.delta.specs.Steps.{cells_of}
use Rattle.delta.specs.Reading.{size_of}
use Rattle.delta.specs.Composing.{Composes, run_step}
use Rattle.delta.proofs.composition.compose_run.Given as goal

-- so many characters of the run are handled
abbrev pub invariant-loop-left : goal.invariant-loop-left
invariant-loop-left l = record {
  most : l.left ≤ l.count;
  composes : Composes (run_step l.kept (l.count - l.left)) l.fn.built l.built (cells_of l.fn.first) (cells_of l.first);
}

abbrev pub decreases-loop-left : goal.decreases-loop-left
decreases-loop-left l = size_of l.first
