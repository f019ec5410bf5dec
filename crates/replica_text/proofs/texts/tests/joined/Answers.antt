use Rattle.std.proofs.Common.{◌≡◌, true, List, [], sym, ap, ◌∙◌, subst, rules}
use Rattle.tt_base.specs.declared.elements.Element.{Element}
use Rattle.replica_text.specs.Ids.{is_known}
use Rattle.replica_text.specs.Ops.{AllMayFollow, all_known_after}
use Rattle.replica_text.proofs.texts.tests.joined.Goals as goal

pub join-requires : goal.join-requires
join-requires g c =
    let yes : c.in_ok-all_before.all_before ≡ true = search rules in
    subst (λ (l : List Element). AllMayFollow c.args.before.now (is_known l)) (c.in_ok-singly.ensures ∙ sym c.in_ok-at_once.ensures)
    (c.in_ok-all_before.ensures.may_follow yes)

pub join-requires-2 : goal.join-requires-2
join-requires-2 g c =
    let yes_before : c.in_ok-all_before.all_before ≡ true = search rules in
    let yes : c.in_ok-all.all ≡ true = search rules in
    subst (AllMayFollow c.args.ops.now)
    (c.in_ok-all_before.ensures.known yes_before
    ∙ ap (λ (l : List Element). all_known_after c.args.before.now (is_known l)) (c.in_ok-singly.ensures ∙ sym c.in_ok-at_once.ensures)
    ∙ sym c.in_ok-join.ensures.known)
    (c.in_ok-all.ensures.may_follow yes)
