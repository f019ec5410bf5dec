use Rattle.std.proofs.Common.{◌∙◌}
use Rattle.replica_text.proofs.TestLemmas.{known_by_place}
use Rattle.replica_text.proofs.texts.tests.has.Goals as goal

pub returns : goal.returns
returns g c = c.is_some.ensures ∙ known_by_place c.args.id.now (g.E.Elements.elements c.args.elements.now) _ c.place_of.ensures
