use Rattle.std.proofs.Common.{◌≡◌, ◌+◌, length, drop}
use Rattle.delta.specs.Cells.{base_length, applied}
use Rattle.text_position.specs.Edits.{with_edits}
use Rattle.text_position.proofs.edit_lists.then_edits.Given as goal

-- the delta so far, with the rest of the edits, is that of all, and the text reached is the one behind it
abbrev pub invariant-loop-index : goal.invariant-loop-index
invariant-loop-index l = record {
  gives : with_edits (l.index + 1) l.text l.delta (drop l.index l.edits) ≡ with_edits 1 l.text l.fn.so_far l.edits;
  base : length l.text ≡ base_length l.delta;
  reached : l.reached ≡ applied l.delta l.text;
}
