use Rattle.std.proofs.Common.{◌∙◌, ap₂, sym}
use Rattle.replica_views.specs.Effects.{is_same_object}
use Rattle.replica_history.proofs.IdTests.{equals_same}
use Rattle.replica_history.proofs.effects.is_same.Goals as goal

pub returns-in-Some-Some : goal.returns-in-Some-Some
returns-in-Some-Some c =
    equals_same c.equals.result c.in-Some-Some.one c.in-Some-Some.other c.equals.ensures
    ∙ ap₂ is_same_object (sym c.in-Some-Some.is-0) (sym c.in-Some-Some.is-1)
