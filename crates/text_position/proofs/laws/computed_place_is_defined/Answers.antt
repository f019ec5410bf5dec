use Rattle.text_position.proofs.PlacesLemmas.{offset_at-place, place-offset_at}
use Rattle.text_position.proofs.laws.computed_place_is_defined.Goals as goal

pub returns-clause-place : goal.returns-clause-place
returns-clause-place c = place-offset_at

pub returns-clause-computed : goal.returns-clause-computed
returns-clause-computed c = offset_at-place
