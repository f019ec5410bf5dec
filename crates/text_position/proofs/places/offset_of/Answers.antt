use Rattle.text_position.proofs.PlacesLemmas.{place-offset_at, no_place}
use Rattle.std.proofs.Common.{sym, ◌∙◌}
use Rattle.text_position.proofs.places.offset_of.Goals as goal

pub returns-in-None-clause-refused : goal.returns-in-None-clause-refused
returns-in-None-clause-refused c = no_place c.args.text.now c.args.p (sym c.offset_at.ensures ∙ c.in-None.is)

pub returns-in-Some-clause-place : goal.returns-in-Some-clause-place
returns-in-Some-clause-place c =
    place-offset_at c.args.text.now c.args.p c.in-Some.offset (sym c.offset_at.ensures ∙ c.in-Some.is)
