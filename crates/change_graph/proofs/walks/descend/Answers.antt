use Rattle.std.proofs.Common.{ap, ◌∙◌}
use Rattle.std.proofs.lemmas.Result.{IfOk-weaker}
use Rattle.change_graph.specs.History.{deps_of}
use Rattle.change_graph.proofs.PlaceLemmas.{descended, descended_none}
use Rattle.change_graph.proofs.walks.descend.Goals as goal

pub returns-in-Some : goal.returns-in-Some
returns-in-Some c =
    IfOk-weaker c.enter.result _ _
    (λ _ entered.
    descended c.args.nodes.now c.args.places.now.keys c.remove.new.self.keys c.enter.new.places.keys c.args.top _
    (c.deps.ensures ∙ ap deps_of c.in-Some.ensures) c.remove.ensures.updates.0 entered)
    c.enter.ensures

pub returns-in-None : goal.returns-in-None
returns-in-None c =
    descended_none c.args.nodes.now c.args.places.now.keys c.remove.new.self.keys c.args.top (ap deps_of c.in-None.ensures)
    c.remove.ensures.updates.0
