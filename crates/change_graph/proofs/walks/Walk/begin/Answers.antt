use Rattle.std.proofs.Common.{◌||◌, List, ap, ◌∙◌}
use Rattle.change_graph.specs.declared.places.Place.{Place}
use Rattle.change_graph.specs.Walk.{has_place, is_place_of}
use Rattle.change_graph.proofs.WalkLemmas.{walk_begins}
use Rattle.change_graph.proofs.walks.Walk.begin.Goals as goal

pub returns : goal.returns
returns c =
    walk_begins c.args.nodes.now c.requires c.args.need.now c.args.have.now
    (record { wanted = c.enter.new.places.keys; covered = c.enter-2.new.places.keys; found = c.new.result.keys })
    (λ place.
    c.in_ok-enter.ensures place
    ∙ ap (λ (places : List Place). has_place places place || is_place_of c.args.nodes.now c.args.need.now place) c.new-wanted.ensures.empty)
    (λ place.
    c.in_ok-enter-2.ensures place
    ∙ ap (λ (places : List Place). has_place places place || is_place_of c.args.nodes.now c.args.have.now place) c.new-covered.ensures.empty)
    c.new.ensures.empty
