use Rattle.change_graph.specs.Walk.{work}
use Rattle.change_graph.proofs.WalkLemmas.{IsOnTheWay}
use Rattle.change_graph.proofs.walks.reaches.Given as goal

abbrev pub invariant-loop-top : goal.invariant-loop-top
invariant-loop-top l = IsOnTheWay l.nodes l.names l.target.name l.places.keys

abbrev pub decreases-loop-top : goal.decreases-loop-top
decreases-loop-top l = work l.nodes l.places.keys
