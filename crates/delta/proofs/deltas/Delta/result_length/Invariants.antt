use Rattle.std.proofs.Common.{◌≡◌, take}
use Rattle.delta.specs.Cells.{result_length}
use Rattle.delta.specs.Steps.{cells_of}
use Rattle.delta.proofs.deltas.Delta.result_length.Given as goal

-- the length of what the steps so far give
abbrev pub invariant-loop-step : goal.invariant-loop-step
invariant-loop-step l = l.length ≡ result_length (cells_of (take l.step-index l.step-items))
