use Rattle.std.proofs.Common.{sym}
use Rattle.text_position.proofs.PlacesLemmas.{place-offset_at, place-within, position_at-place, offset_at-position_at}
use Rattle.text_position.proofs.laws.places_and_positions_are_inverse.Goals as goal

pub returns-clause-place : goal.returns-clause-place
returns-clause-place c = offset_at-position_at

pub returns-clause-position : goal.returns-clause-position
returns-clause-position c = λ text p offset found.
    let place = place-offset_at text p offset found in
    (place-within text p offset place, sym (position_at-place text p offset place))
