use Rattle.std.proofs.Common.{◌≡◌, take}
use Rattle.change_graph.specs.History.{missing}
use Rattle.change_graph.proofs.graphs.missing_names.Given as goal

abbrev pub invariant-loop-name : goal.invariant-loop-name
invariant-loop-name l = l.list.items ≡ missing l.nodes.history (take l.name-index l.names)
