use Rattle.change_graph.proofs.NodeLemmas.{inserted, rising}
use Rattle.change_graph.proofs.nodes.Nodes.insert.Goals as goal

pub returns-clause-ok : goal.returns-clause-ok
returns-clause-ok c =
    rw (← c.self.view_is)
    (inserted c.self.inside.by_name.entries c.insert.new.self.entries c.args.name
    _ c.in_ok-insert.ensures.entries)

pub returns-clause-rising : goal.returns-clause-rising
returns-clause-rising c = rising c.insert.new.self.entries c.in_ok-insert.ensures.ordered
