use Rattle.std.proofs.Common.{◌≡◌, drop}
use Rattle.delta.specs.Cells.{base_length, joined}
use Rattle.delta.specs.Steps.{cells_of}
use Rattle.transform.specs.Carried.{carried}
use Rattle.transform.proofs.transforms.pass.Given as goal

-- what is built, and then what the rest of both deltas gives, is the whole
abbrev pub invariant-loop-step : goal.invariant-loop-step
invariant-loop-step l = record {
  gives : joined l.built (carried l.side (cells_of (drop l.step-index l.step-items)) (cells_of l.ahead)) ≡ carried l.side l.daemon l.editor;
  base : base_length (cells_of l.ahead) ≡ base_length (cells_of (drop l.step-index l.step-items));
}
