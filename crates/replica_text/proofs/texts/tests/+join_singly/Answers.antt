use Rattle.std.proofs.Common.{◌≡◌, Bool, true, List, sym, ◌∙◌, subst, rules, arith}
use Rattle.std.proofs.lemmas.Bool.{eqb-false}
use Rattle.tt_base.specs.declared.elements.Element.{Element}
use Rattle.tt_base.specs.declared.ids.ElemId.{ElemId}
use Rattle.replica_text.specs.Ids.{is_known}
use Rattle.replica_text.specs.Ops.{MayFollow, AllMayFollow, all_known_after}
use Rattle.replica_text.proofs.CutLemmas.{if_ok}
use Rattle.replica_text.proofs.TestLemmas.{BeginsWith, begins, first_may, all_may, all_known}
use Rattle.replica_text.proofs.texts.tests.+join_singly.Goals as goal

pub join-requires : goal.join-requires
join-requires t c =
    let first = c.split_at.result.0.now in let others = c.split_at.result.1.now in
    let b : BeginsWith c.args.ops.now first others =
    begins c.args.ops.now first others (omega (arith, eqb-false _ _ (sym c.is_empty.ensures ∙ c.if-is_empty.false))) c.split_at.ensures.front c.split_at.ensures.back in
    first_may c.args.ops.now first others c.index-first-0.result (is_known c.args.text.now) b c.index-first-0.is
    (subst (λ (l : List Element). MayFollow c.index-first-0.result (is_known l)) c.text.view_is (c.may_follow.ensures c.if-not-may_follow.false))

pub returns-clause-may_follow : goal.returns-clause-may_follow
returns-clause-may_follow t c =
    let known : ElemId → Bool = is_known c.args.text.now in
    let first = c.split_at.result.0.now in let others = c.split_at.result.1.now in
    let b : BeginsWith c.args.ops.now first others =
    begins c.args.ops.now first others (omega (arith, eqb-false _ _ (sym c.is_empty.ensures ∙ c.if-is_empty.false))) c.split_at.ensures.front c.split_at.ensures.back in
    if_ok _ (λ (all : Bool). all ≡ true → AllMayFollow c.args.ops.now known) c.join_singly.result
    (λ all h yes. all_may c.args.ops.now first others c.index-first-0.result known (is_known c.join.new.self) b c.index-first-0.is
    (subst (λ (l : List Element). MayFollow c.index-first-0.result (is_known l)) c.text.view_is (c.may_follow.ensures c.if-not-may_follow.false))
    c.in_ok-join.ensures.known (h yes))
    c.join_singly.ensures.may_follow

pub returns-clause-known : goal.returns-clause-known
returns-clause-known t c =
    let known : ElemId → Bool = is_known c.args.text.now in
    let first = c.split_at.result.0.now in let others = c.split_at.result.1.now in
    let b : BeginsWith c.args.ops.now first others =
    begins c.args.ops.now first others (omega (arith, eqb-false _ _ (sym c.is_empty.ensures ∙ c.if-is_empty.false))) c.split_at.ensures.front c.split_at.ensures.back in
    if_ok _ (λ (all : Bool). all ≡ true → is_known c.join_singly.new.text ≡ all_known_after c.args.ops.now known) c.join_singly.result
    (λ all h yes. all_known c.args.ops.now first others known (is_known c.join.new.self) (is_known c.join_singly.new.text) b c.in_ok-join.ensures.known (h yes))
    c.join_singly.ensures.known
