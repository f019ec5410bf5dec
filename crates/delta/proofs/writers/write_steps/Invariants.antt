use Rattle.std.proofs.Common.{take}
use Rattle.delta.specs.Steps.{cells_of}
use Rattle.delta.specs.Alike.{IsAlike}
use Rattle.delta.proofs.writers.write_steps.Given as goal

-- what was written is like the steps so far
abbrev pub invariant-loop-step : goal.invariant-loop-step
invariant-loop-step l = IsAlike l.writer (cells_of (take l.step-index l.steps))
