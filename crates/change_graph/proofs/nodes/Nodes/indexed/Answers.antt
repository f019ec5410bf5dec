use Rattle.std.proofs.Common.{Some, None, ap, ◌∙◌}
use Rattle.change_graph.specs.History.{is_name, ops_of}
use Rattle.change_graph.proofs.NodeLemmas.{change_found}
use Rattle.change_graph.proofs.nodes.Nodes.indexed.Goals as goal

pub returns : goal.returns
returns c =
    rw (← c.self.view_is)
    (c.ops.ensures ∙ ap ops_of (change_found c.self.inside.by_name.entries (is_name c.args.name.now) (Some c.in-Some.node.now) c.in-Some.ensures.value))

pub returns-in_default : goal.returns-in_default
returns-in_default c =
    rw (← c.self.view_is)
    (c.none.ensures ∙ ap ops_of (change_found c.self.inside.by_name.entries (is_name c.args.name.now) None c.in_default.ensures.value))
