use Rattle.paged.proofs.SpotLemmas.{spot-reached}
use Rattle.paged.proofs.columns.find.Goals as goal

pub returns-clause-spot : goal.returns-clause-spot
returns-clause-spot g c =
    let found = c.reach.ensures in
    spot-reached c.args.pages.now c.args.lengths.now c.args.place _ _ c.requires.lengths c.requires.some c.requires.within found.index found.reached found.inside found.behind
