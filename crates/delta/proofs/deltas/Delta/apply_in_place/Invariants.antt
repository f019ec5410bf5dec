use Rattle.std.proofs.Common.{◌≡◌, ◌≤◌, ◌++◌, length, take, drop}
use Rattle.delta.specs.Cells.{base_length, applied}
use Rattle.delta.specs.Steps.{cells_of}
use Rattle.delta.proofs.deltas.Delta.apply_in_place.Given as goal

-- the text before the place, and then what the rest of the steps makes of the text behind it, is the whole
abbrev pub invariant-loop-step : goal.invariant-loop-step
invariant-loop-step l = record {
  whole : take l.place l.text ++ applied (cells_of (drop l.step-index l.step-items)) (drop l.place l.text) ≡ applied (cells_of l.step-items) l.fn.text;
  base : length (drop l.place l.text) ≡ base_length (cells_of (drop l.step-index l.step-items));
  within : l.place ≤ length l.text;
}
