use Rattle.std.proofs.Common.{◌≡◌, ◌||◌, take}
use Rattle.change_graph.specs.declared.places.Place.{Place}
use Rattle.change_graph.specs.Walk.{has_place, is_place_of}
use Rattle.change_graph.proofs.places.enter.Given as goal

abbrev pub invariant-loop-name : goal.invariant-loop-name
invariant-loop-name l =
    (place : Place) → has_place l.places.keys place ≡ (has_place l.initial.places.keys place || is_place_of l.nodes (take l.name-index l.names) place)
