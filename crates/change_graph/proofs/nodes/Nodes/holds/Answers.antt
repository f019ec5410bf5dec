use Rattle.std.proofs.Common.{◌∙◌}
use Rattle.change_graph.specs.History.{is_name}
use Rattle.change_graph.proofs.NodeLemmas.{held_found}
use Rattle.change_graph.proofs.nodes.Nodes.holds.Goals as goal

pub returns : goal.returns
returns c =
    rw (← c.self.view_is) (c.contains_key.ensures ∙ held_found c.self.inside.by_name.entries (is_name c.args.name.now))
