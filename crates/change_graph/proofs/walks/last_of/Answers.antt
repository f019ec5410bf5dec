use Rattle.change_graph.proofs.PlaceLemmas.{last_is}
use Rattle.change_graph.proofs.walks.last_of.Goals as goal

pub returns : goal.returns
returns c =
    rw c.copied.ensures
    (last_is c.args.places.now.keys c.last.result c.last.ensures.variant c.last.ensures.member c.last.ensures.greatest)
