use Rattle.std.proofs.Common.{◌≡◌, ◌++◌, take, drop}
use Rattle.replica_text.specs.Placed.{run_of}
use Rattle.replica_text.proofs.inserting.insert_run.Given as goal

abbrev pub invariant-loop-count : goal.invariant-loop-count
invariant-loop-count g l = g.E.Elements.elements l.elements
    ≡ take l.place (g.E.Elements.elements l.fn.elements) ++ (run_of l.first (take l.count l.chars) ++ drop l.place (g.E.Elements.elements l.fn.elements))
