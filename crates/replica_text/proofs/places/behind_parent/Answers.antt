use Rattle.std.proofs.Common.{List, ◌++◌, Option, Some, take, drop, subst, sym, ap, ◌∙◌, add-one}
use Rattle.tt_base.specs.declared.ids.ElemId.{ElemId}
use Rattle.tt_base.specs.declared.elements.Element.{Element}
use Rattle.replica_text.specs.Ids.{is_known}
use Rattle.replica_text.specs.Ops.{MayBeParent}
use Rattle.replica_text.specs.Placed.{passing, placed}
use Rattle.replica_text.proofs.MemberLemmas.{new_has, known_has}
use Rattle.replica_text.proofs.PlaceLemmas.{behind_place}
use Rattle.replica_text.proofs.places.behind_parent.Goals as goal

pub unreachable-requires : goal.unreachable-requires
unreachable-requires g c =
    let all : List Element = g.E.Elements.elements c.args.elements.now in
    let may : MayBeParent (Some c.in-Some.parent) c.args.id.now (is_known all) =
    subst (λ (o : Option ElemId). MayBeParent o c.args.id.now (is_known all)) c.in-Some.is c.requires in
    new_has c.in-Some.parent all c.in-None-place_of.ensures (known_has c.in-Some.parent all may.0)

pub returns-in-Some-place_of-clause-placed : goal.returns-in-Some-place_of-clause-placed
returns-in-Some-place_of-clause-placed g c =
    let all : List Element = g.E.Elements.elements c.args.elements.now in
    λ new.
    ap (λ (o : Option ElemId). placed o new all) c.in-Some.is
    ∙ behind_place c.in-Some.parent new all c.in-Some-place_of.place (g.met.E.Elements.distinct c.args.elements.now) c.in-Some-place_of.ensures
    ∙ ap (λ n. take n all ++ passing new (drop n all)) (sym (add-one c.in-Some-place_of.place))
