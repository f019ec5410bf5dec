use Rattle.std.proofs.Common.{◌≡◌, true, false, List, ◌++◌, take, drop, rules, subst, sym, ap, ◌∙◌, add-one}
use Rattle.tt_base.specs.declared.ids.ElemId.{ElemId}
use Rattle.tt_base.specs.declared.elements.Element.{Element}
use Rattle.replica_text.specs.Ids.{less}
use Rattle.replica_text.specs.Placed.{passing, Stops}
use Rattle.replica_text.proofs.OrderLemmas.{less_is}
use Rattle.replica_text.proofs.SkipLemmas.{passing_stops}
use Rattle.replica_text.proofs.PlaceLemmas.{pass_more, stops_at}
use Rattle.replica_text.proofs.places.behind_greater.Goals as goal

pub returns-then-not-is_before-clause-stops : goal.returns-then-not-is_before-clause-stops
returns-then-not-is_before-clause-stops g c =
    let answer : c.is_before.result ≡ false = search rules in
    stops_at c.args.id.now (g.E.Elements.elements c.args.elements.now) c.loop-place.place c.at.result c.at.ensures
    (less_is c.args.id.now c.at.result.id ∙ sym c.is_before.ensures ∙ answer)

pub returns-then-not-is_before-clause-passed : goal.returns-then-not-is_before-clause-passed
returns-then-not-is_before-clause-passed g c =
    let all : List Element = g.E.Elements.elements c.args.elements.now in
    let answer : c.is_before.result ≡ false = search rules in
    let stops : Stops c.args.id.now (drop c.loop-place.place all) =
    stops_at c.args.id.now all c.loop-place.place c.at.result c.at.ensures (less_is c.args.id.now c.at.result.id ∙ sym c.is_before.ensures ∙ answer) in
    λ new is.
    c.loop-place.invariant new is
    ∙ ap (λ l. take c.loop-place.place all ++ l)
    (passing_stops new (drop c.loop-place.place all) (subst (λ (i : ElemId). Stops i (drop c.loop-place.place all)) (sym is) stops))

pub loop-place-preserved : goal.loop-place-preserved
loop-place-preserved g c =
    let all : List Element = g.E.Elements.elements c.args.elements.now in
    let answer : c.is_before.result ≡ true = search rules in
    λ new is.
    c.loop-place.invariant new is
    ∙ pass_more new all c.loop-place.place c.at.result c.at.ensures
    (ap (λ (i : ElemId). less i c.at.result.id) is ∙ less_is c.args.id.now c.at.result.id ∙ sym c.is_before.ensures ∙ answer)
    ∙ ap (λ n. take n all ++ passing new (drop n all)) (sym (add-one c.loop-place.place))
