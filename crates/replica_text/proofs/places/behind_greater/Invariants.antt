use Rattle.std.proofs.Common.{◌≡◌, ◌++◌, take, drop}
use Rattle.tt_base.specs.declared.elements.Element.{Element}
use Rattle.replica_text.specs.Placed.{passing}
use Rattle.replica_text.proofs.places.behind_greater.Given as goal

abbrev pub invariant-loop-place : goal.invariant-loop-place
invariant-loop-place g l = (new : Element) → new.id ≡ l.id
    → take l.start (g.E.Elements.elements l.elements) ++ passing new (drop l.start (g.E.Elements.elements l.elements))
    ≡ take l.place (g.E.Elements.elements l.elements) ++ passing new (drop l.place (g.E.Elements.elements l.elements))
