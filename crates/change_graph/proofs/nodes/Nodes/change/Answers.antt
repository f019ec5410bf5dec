use Rattle.std.proofs.Common.{Some, None}
use Rattle.change_graph.specs.History.{is_name}
use Rattle.change_graph.proofs.NodeLemmas.{change_found}
use Rattle.change_graph.proofs.nodes.Nodes.change.Goals as goal

pub returns-in-Some : goal.returns-in-Some
returns-in-Some c =
    rw (← c.self.view_is)
    (change_found c.self.inside.by_name.entries (is_name c.args.name.now) (Some c.in-Some.node.now) c.in-Some.ensures.value)

pub returns-in-None : goal.returns-in-None
returns-in-None c =
    rw (← c.self.view_is) (change_found c.self.inside.by_name.entries (is_name c.args.name.now) None c.in-None.ensures.value)
