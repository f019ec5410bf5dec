use Rattle.std.proofs.Common.{Bool, Option, sym, ◌∙◌, subst}
use Rattle.tt_base.specs.declared.ids.ElemId.{ElemId}
use Rattle.replica_text.specs.Ids.{is_known}
use Rattle.replica_text.specs.Ops.{MayBeParent}
use Rattle.replica_text.proofs.OrderLemmas.{less_is}
use Rattle.replica_text.proofs.texts.tests.may_be_parent.Goals as goal

pub returns-in-None : goal.returns-in-None
returns-in-None g c =
    let known : ElemId → Bool = is_known (g.E.Elements.elements c.args.elements.now) in
    λ h. subst (λ (o : Option ElemId). MayBeParent o c.args.id.now known) (sym c.in-None.is) tt

pub returns-then-has : goal.returns-then-has
returns-then-has g c =
    let known : ElemId → Bool = is_known (g.E.Elements.elements c.args.elements.now) in
    λ h. subst (λ (o : Option ElemId). MayBeParent o c.args.id.now known) (sym c.in-Some.is)
    (sym c.has.ensures ∙ c.if-has.true, less_is c.in-Some.parent c.args.id.now ∙ sym c.is_before.ensures ∙ h)
