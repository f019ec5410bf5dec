use Rattle.std.proofs.Common.{◌≡◌, subst, sym, ◌∙◌}
use Rattle.text_position.specs.Places.{IsPlace, position_at}
use Rattle.tt_base.specs.declared.edits.Position.{Position}
use Rattle.text_position.proofs.PlacesLemmas.{position_at-place, place-position_at}
use Rattle.text_position.proofs.places.position_of.Goals as goal

pub returns-clause-place : goal.returns-clause-place
returns-clause-place c =
    let is : position_at c.args.text.now c.args.offset ≡ c.position_at.result = sym c.position_at.ensures in
    let P : Position → Type 0 = λ p. IsPlace c.args.text.now p c.args.offset in
    subst P is (place-position_at c.args.text.now c.args.offset c.requires)

pub returns-clause-only : goal.returns-clause-only
returns-clause-only c = λ p place.
    let is : position_at c.args.text.now c.args.offset ≡ c.position_at.result = sym c.position_at.ensures in
    position_at-place c.args.text.now p c.args.offset place ∙ is
