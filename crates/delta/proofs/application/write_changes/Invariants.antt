use Rattle.std.proofs.Common.{◌≡◌, ◌≤◌, ◌++◌, length, drop}
use Rattle.delta.specs.Cells.{base_length, applied}
use Rattle.delta.specs.Steps.{cells_of}
use Rattle.delta.proofs.application.write_changes.Given as goal

-- what is written, and then what the rest of the steps makes of what is left, is the whole
abbrev pub invariant-loop-step : goal.invariant-loop-step
invariant-loop-step l = record {
  whole : l.after.items ++ applied (cells_of (drop l.step-index l.steps)) l.left ≡ l.fn.after.items ++ applied (cells_of l.steps) l.fn.left;
  within : base_length (cells_of (drop l.step-index l.steps)) ≤ length l.left;
}
