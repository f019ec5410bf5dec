use Rattle.std.proofs.Common.{◌≡◌, ◌≤◌, ◌-◌, length, take, drop, sym, ap, ◌∙◌, subst, refl}
use Rattle.delta.specs.Cells.{base_length}
use Rattle.editor_bridge.specs.Link.{Link, with_confirmed}
use Rattle.editor_bridge.specs.Carrying.{StandsFor}
use Rattle.editor_bridge.proofs.QueueLemmas.{IsBridge-confirm, view-confirm}
use Rattle.editor_bridge.proofs.bridges.Bridge.confirm.Goals as goal

pub invariant_of-self-2 : goal.invariant_of-self-2
invariant_of-self-2 c =
    let all = c.in_ok-all.all in
    let base = c.self.inside.base in
    let shown = c.in_ok-shown.shown in
    let stands = subst (λ (l : Link). StandsFor (take shown l.unconfirmed) all) (sym c.self.view_is) c.in_ok-all.ensures.shown in
    let fits = subst (λ (l : Link). base_length all ≡ length l.base) (sym c.self.view_is) c.in_ok-all.ensures.base in
    IsBridge-confirm base c.self.inside.queue c.without_first.result c.self.inside.issued c.self.inside.text_length shown c.apply_at_once.new.text c.self.invariant
    (c.in_ok-apply_at_once.ensures.ok ∙ stands.text base fits) (c.without_first.ensures ∙ ap (drop shown) c.replace-queue.ensures.value)

pub returns-clause-ok : goal.returns-clause-ok
returns-clause-ok c =
    let all = c.in_ok-all.all in
    let base = c.self.inside.base in
    let queue = c.self.inside.queue in
    let shown = c.in_ok-shown.shown in
    let seen = c.args.seen in
    let l : Link = record { base = base; unconfirmed = queue; confirmed = c.self.inside.issued - length queue; taken = c.self.inside.taken } in
    let back = subst (λ (k : Link). k.confirmed ≤ seen) (sym c.self.view_is) c.in_ok-shown.ensures.back in
    let within = subst (λ (k : Link). shown ≤ length k.unconfirmed) (sym c.self.view_is) c.in_ok-shown.ensures.within in
    let counted = subst (λ (k : Link). shown ≡ seen - k.confirmed) (sym c.self.view_is) c.in_ok-shown.ensures.shown in
    let stands = subst (λ (k : Link). StandsFor (take shown k.unconfirmed) all) (sym c.self.view_is) c.in_ok-all.ensures.shown in
    let fits = subst (λ (k : Link). base_length all ≡ length k.base) (sym c.self.view_is) c.in_ok-all.ensures.base in
    view-confirm l seen shown c.self.inside.issued c.apply_at_once.new.text c.without_first.result c.self.invariant.few refl back counted within
    (c.in_ok-apply_at_once.ensures.ok ∙ stands.text base fits) (c.without_first.ensures ∙ ap (drop shown) c.replace-queue.ensures.value)
    ∙ ap (with_confirmed seen) c.self.view_is
