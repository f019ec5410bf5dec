use Rattle.std.proofs.Common.{◌≡◌, map, take}
use Rattle.change_graph.specs.Depths.{greatest}
use Rattle.change_graph.specs.Nodes.{depth_in}
use Rattle.change_graph.proofs.graphs.greatest_depth.Given as goal

abbrev pub invariant-loop-name : goal.invariant-loop-name
invariant-loop-name l = l.most ≡ greatest (map (depth_in l.nodes.depths) (take l.name-index l.names))
