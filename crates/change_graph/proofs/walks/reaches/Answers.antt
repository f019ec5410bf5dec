use Rattle.std.proofs.Common.{◌||◌, List, refl, sym, ap, ◌∙◌}
use Rattle.change_graph.specs.declared.places.Place.{Place}
use Rattle.change_graph.specs.Walk.{has_place, is_place_of}
use Rattle.change_graph.proofs.OrderLemmas.{place_tied, before_back}
use Rattle.change_graph.proofs.PlaceLemmas.{below_before}
use Rattle.change_graph.proofs.WalkLemmas.{top_held, way_begins, way_goes, way_there, way_lost, way_none}
use Rattle.change_graph.proofs.WorkLemmas.{work_less}
use Rattle.change_graph.proofs.walks.reaches.Goals as goal

pub loop-top-init : goal.loop-top-init
loop-top-init c =
    way_begins c.args.nodes.now c.requires.deep c.args.names.now c.args.target.name c.enter.new.places.keys
    (λ place.
    c.in_ok-enter.ensures place
    ∙ ap (λ (places : List Place). has_place places place || is_place_of c.args.nodes.now c.args.names.now place) c.new-places.ensures.empty)

pub loop-top-smaller : goal.loop-top-smaller
loop-top-smaller c =
    let within = c.loop-top.invariant.within in
    let last = c.in-Some.ensures in
    work_less c.args.nodes.now c.loop-top.places.keys c.descend.new.places.keys c.in-Some.top last.member (within c.in-Some.top last.member).0
    (top_held c.args.nodes.now c.requires.deep c.args.names.now c.loop-top.places.keys c.in-Some.top within last.member)
    (λ place has.
    below_before c.args.nodes.now c.requires.deep c.loop-top.places.keys c.in-Some.top place last.greatest (within c.in-Some.top last.member).0
    (sym (c.in_ok-descend-in-Less.ensures place) ∙ has))

pub loop-top-preserved : goal.loop-top-preserved
loop-top-preserved c =
    way_goes c.args.nodes.now c.requires.deep c.args.names.now c.args.target c.in-Some.top c.loop-top.places.keys c.descend.new.places.keys
    c.in-Some.ensures (sym c.in-Less.ensures) c.in_ok-descend-in-Less.ensures c.loop-top.invariant c.requires.there

pub returns-in-Equal : goal.returns-in-Equal
returns-in-Equal c = (
  λ _.
      way_there c.args.nodes.now c.args.names.now c.args.target c.in-Some.top c.loop-top.places.keys c.in-Some.ensures
      (place_tied c.args.target c.in-Some.top (sym c.in-Equal.ensures)) c.loop-top.invariant,
  λ _. refl,
)

pub returns-in-Greater : goal.returns-in-Greater
returns-in-Greater c = (
  λ never. cc,
  λ reached.
      absurd (way_lost c.args.nodes.now c.requires.deep c.args.names.now c.args.target c.in-Some.top c.loop-top.places.keys c.in-Some.ensures
      (before_back c.args.target c.in-Some.top (sym c.in-Greater.ensures)) c.requires.there c.loop-top.invariant reached),
)

pub returns : goal.returns
returns c = (
  λ never. cc,
  λ reached.
      absurd (way_none c.args.nodes.now c.args.names.now c.args.target.name c.loop-top.places.keys c.in_default.ensures c.loop-top.invariant reached),
)
