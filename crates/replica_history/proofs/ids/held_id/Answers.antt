use Rattle.std.proofs.Common.{◌≡◌, ◌∙◌, ap, Option}
use Rattle.change_codec.specs.Change.{Change}
use Rattle.replica_views.specs.Ids.{depth_at, maker, maker_at}
use Rattle.replica_views.proofs.ToldLemmas.{depth_told}
use Rattle.replica_history.proofs.ids.held_id.Goals as goal

pub returns : goal.returns
returns c =
    let depth : c.in-Some.depth ≡ depth_at c.args.graph.now c.args.name.now =
    depth_told c.args.graph.now c.requires.grown c.args.name.now c.in-Some.depth c.in-Some.ensures in
    let actor : c.actor.result ≡ maker_at c.args.graph.now c.args.name.now = c.actor.ensures.actor ∙ ap (λ (o : Option Change). maker o) c.in-Some-change.ensures in
    λ i. record { depth = depth i; actor = actor i; name = c.args.name.now; index = c.args.index }
