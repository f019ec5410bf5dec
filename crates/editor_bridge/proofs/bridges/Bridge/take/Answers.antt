use Rattle.std.proofs.Common.{sym, ap, ◌∙◌, subst, refl}
use Rattle.editor_bridge.specs.Link.{Link, with_edit}
use Rattle.editor_bridge.specs.Carrying.{IsCarried}
use Rattle.editor_bridge.proofs.QueueLemmas.{carried_base, IsBridge-take, view-take}
use Rattle.editor_bridge.proofs.bridges.Bridge.take.Goals as goal

pub apply_at_once-requires : goal.apply_at_once-requires
apply_at_once-requires c =
    let h = subst (λ (l : Link). IsCarried l c.args.seen c.args.p c.in_ok-carried.carried) (sym c.self.view_is) c.in_ok-carried.ensures.carried in
    sym (carried_base _ c.args.seen c.args.p c.in_ok-carried.carried c.self.invariant.chain h)

pub invariant_of-self-2 : goal.invariant_of-self-2
invariant_of-self-2 c =
    let h = subst (λ (l : Link). IsCarried l c.args.seen c.args.p c.in_ok-carried.carried) (sym c.self.view_is) c.in_ok-carried.ensures.carried in
    IsBridge-take _ c.args.seen c.args.p c.in_ok-carried.carried c.self.inside.issued c.self.inside.text_length c.apply_at_once.new.text _ c.self.invariant h
    c.in_ok-apply_at_once.ensures.ok c.result_length-self-inside.ensures

pub returns-clause-ok : goal.returns-clause-ok
returns-clause-ok c =
    let h = subst (λ (l : Link). IsCarried l c.args.seen c.args.p c.in_ok-carried.carried) (sym c.self.view_is) c.in_ok-carried.ensures.carried in
    view-take _ c.args.seen c.args.p c.in_ok-carried.carried c.self.inside.issued c.apply_at_once.new.text c.self.invariant.chain c.self.invariant.few refl h
    c.in_ok-apply_at_once.ensures.ok
    ∙ ap (with_edit c.args.seen c.args.p) c.self.view_is
