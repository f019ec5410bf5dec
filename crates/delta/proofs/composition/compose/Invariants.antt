use Rattle.std.proofs.Common.{◌≡◌, ◌+◌, drop}
use Rattle.delta.specs.Cells.{base_length, result_length}
use Rattle.delta.specs.Marks.{applied_marks, marks_of}
use Rattle.delta.specs.Steps.{cells_of}
use Rattle.delta.specs.Composing.{composing}
use Rattle.delta.proofs.composition.compose.Given as goal

-- what is built, and then what the rest of both deltas leaves, is the whole
abbrev pub invariant-loop-step : goal.invariant-loop-step
invariant-loop-step l = record {
  leaves : composing l.built (cells_of l.ahead) (cells_of (drop l.step-index l.step-items)) ≡ applied_marks l.second (marks_of l.first);
  base : base_length l.built + base_length (cells_of l.ahead) ≡ base_length l.first;
  result : result_length (cells_of l.ahead) ≡ base_length (cells_of (drop l.step-index l.step-items));
}
