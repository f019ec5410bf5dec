use Rattle.std.proofs.Common.{ap, ◌∙◌, ◌↔◌, ◌≡◌, subst, List, IfOk, IsTrue}
use Rattle.tt_base.specs.declared.ids.Name.{Name}
use Rattle.change_graph.specs.Closure.{IsInClosure}
use Rattle.change_graph.specs.History.{deps_of, deps_at}
use Rattle.change_graph.proofs.GraphLemmas.{absent_has_none}
use Rattle.change_graph.proofs.graphs.Graph.is_ancestor.Goals as goal

pub returns-in_default-change : goal.returns-in_default-change
returns-in_default-change c =
    rw (← c.self.view_is) (
      λ never. cc,
      λ reached. absurd (absent_has_none c.self.inside.nodes.history c.args.ancestor.now c.args.name.now c.in_default-change.ensures reached),
    )

pub returns : goal.returns
returns c =
    let deps_are : c.deps.result.now ≡ deps_at c.self.inside.nodes.history c.args.name.now =
    c.deps.ensures ∙ ap deps_of c.in-Some-change.ensures in
    rw (← c.self.view_is)
    (subst (λ (ns : List Name). IfOk c.reaches.result (λ yes. IsTrue yes ↔ IsInClosure c.self.inside.nodes.history ns c.args.ancestor.now)) deps_are
    c.reaches.ensures)
