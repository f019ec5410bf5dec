use Rattle.std.proofs.lemmas.Result.{IfOk-weaker}
use Rattle.change_graph.proofs.WalkLemmas.{find_step}
use Rattle.change_graph.proofs.walks.Walk.find.Goals as goal

pub returns : goal.returns
returns c =
    IfOk-weaker c.descend.result _ _
    (λ _ changed.
    find_step c.args.nodes.now c.requires.deep c.args.self.now c.self.inside.wanted.keys c.self.inside.covered.keys c.self.inside.found.keys
    c.descend.new.places.keys c.insert.new.self.keys c.args.top c.self.view_is c.requires.last c.requires.covered
    c.in_ok-insert.ensures.updates.0 changed)
    c.descend.ensures
