use Rattle.std.proofs.Common.{◌≤◌}
use Rattle.delta.specs.Steps.{cells_of}
use Rattle.delta.specs.Reading.{size_of}
use Rattle.transform.specs.Walk.{Passes}
use Rattle.transform.proofs.transforms.pass_run.Given as goal

-- so many characters of the run are left
abbrev pub invariant-loop-left : goal.invariant-loop-left
invariant-loop-left l = record {
  most : l.left ≤ l.count;
  passes : Passes l.side l.kept l.count l.left l.fn.built l.built (cells_of l.fn.editor) (cells_of l.editor);
}

abbrev pub decreases-loop-left : goal.decreases-loop-left
decreases-loop-left l = size_of l.editor
