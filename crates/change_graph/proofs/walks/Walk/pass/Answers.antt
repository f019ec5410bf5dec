use Rattle.std.proofs.lemmas.Result.{IfOk-weaker}
use Rattle.change_graph.proofs.WalkLemmas.{pass_step}
use Rattle.change_graph.proofs.walks.Walk.pass.Goals as goal

pub returns : goal.returns
returns c =
    IfOk-weaker c.descend.result _ _
    (λ _ changed.
    pass_step c.args.nodes.now c.requires.deep c.args.self.now c.self.inside.wanted.keys c.self.inside.covered.keys c.self.inside.found.keys
    c.remove.new.self.keys c.descend.new.places.keys c.args.top c.self.view_is c.requires.last c.requires.wanted c.remove.ensures.updates.0 changed)
    c.descend.ensures
