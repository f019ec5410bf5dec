use Rattle.std.proofs.Common.{◌≡◌, ◌+◌, [], ◌++◌, length, drop, map}
use Rattle.delta.specs.Cells.{base_length}
use Rattle.delta.specs.Steps.{cells_of}
use Rattle.text_position.specs.Changes.{edit_for}
use Rattle.text_position.specs.Writing.{changes_ahead}
use Rattle.text_position.proofs.delta_edits.to_edits.Given as goal

-- the edits that are written, and then those of the rest of the steps, are all
abbrev pub invariant-loop-step : goal.invariant-loop-step
invariant-loop-step l = record {
  whole : l.edits.items ++ map (edit_for l.text) (changes_ahead l.gap.place l.gap.waiting.now (drop l.step-index l.step-items)) ≡ map (edit_for l.text) (changes_ahead 0 [] l.step-items);
  base : l.gap.place + base_length (cells_of (drop l.step-index l.step-items)) ≡ length l.text;
}
