use Rattle.std.proofs.Common.{◌++◌}
use Rattle.change_graph.specs.Walk.{IsWalk, work}
use Rattle.change_graph.proofs.walks.difference.Given as goal

abbrev pub invariant-loop-wanted : goal.invariant-loop-wanted
invariant-loop-wanted l = IsWalk l.nodes l.need l.have l.walk

abbrev pub decreases-loop-wanted : goal.decreases-loop-wanted
decreases-loop-wanted l = work l.nodes (l.walk.wanted ++ l.walk.covered)
