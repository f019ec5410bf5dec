use Rattle.std.proofs.Common.{◌≡◌, ℕ, ◌+◌, ◌-◌, ◌/◌, ◌<◌, ◌≤◌, ◌^◌, true, List, Bool, refl, subst, sym, ap, ◌∙◌, arith}
use Rattle.delta.specs.Cells.{covers, nothing, normal}
use Rattle.tt_base.specs.declared.ids.ElemId.{ElemId}
use Rattle.tt_base.specs.declared.elements.Element.{Element}
use Rattle.replica_text.specs.Ids.{is_known, shifted}
use Rattle.replica_text.specs.Ops.{IsRunKnown, MayDelete, without_run}
use Rattle.replica_text.specs.Joined.{Joins}
use Rattle.replica_text.proofs.OpsLemmas.{without_run-add, run_front, run_back}
use Rattle.replica_text.proofs.JoinLemmas.{joins_both, joins_fit, joins_nothing}
use Rattle.replica_text.proofs.CutLemmas.{if_ok}
use Rattle.replica_text.proofs.deleting.+join_delete.Goals as goal

halves : (count : ℕ) → count ≡ (count / 2) + (count - (count / 2))
halves count = omega arith

may_front : (first : ElemId) (count : ℕ) (known : ElemId → Bool) → MayDelete first count known → MayDelete first (count / 2) known
may_front first count known h = record {
  there = run_front true first (count / 2) (count - (count / 2)) known (subst (λ n. IsRunKnown true first n known) (halves count) h.there);
  fits = let fits : first.index + count ≤ 2 ^ 64 = h.fits in omega arith;
}

may_back : (first : ElemId) (count : ℕ) (known : ElemId → Bool) → MayDelete first count known → MayDelete (shifted first (count / 2)) (count - (count / 2)) known
may_back first count known h = record {
  there = run_back true first (count / 2) (count - (count / 2)) known (subst (λ n. IsRunKnown true first n known) (halves count) h.there);
  fits = let fits : first.index + count ≤ 2 ^ 64 = h.fits in omega arith;
}

pub join_delete-requires : goal.join_delete-requires
join_delete-requires g t c κs within =
    let smaller : c.args.count / 2 < t = omega arith in
    (smaller, (within, may_front c.args.first.now c.args.count (is_known (g.E.Elements.elements c.args.elements.now)) c.requires))

pub join_delete-requires-in_default : goal.join_delete-requires-in_default
join_delete-requires-in_default g t c κs within =
    let smaller : c.args.count - c.args.count / 2 < t = omega arith in (
      smaller,
      (
        within,
        subst (MayDelete (shifted c.args.first.now (c.args.count / 2)) (c.args.count - c.args.count / 2)) (sym c.in_ok-front-in_default.ensures.known)
            (may_back c.args.first.now c.args.count (is_known (g.E.Elements.elements c.args.elements.now)) c.requires),
      ),
    )

pub compose-requires : goal.compose-requires
compose-requires g t c =
    joins_fit _ _ _ _ (g.E.Elements.elements c.args.elements.now) (g.E.Elements.elements c.join_delete.new.elements) (g.E.Elements.elements c.join_delete-in_default.new.elements)
    c.in_ok-front-in_default.front c.in_ok-back-in_default.back (g.met.E.Elements.distinct c.join_delete.new.elements)
    c.in_ok-front-in_default.ensures c.in_ok-back-in_default.ensures

pub returns-in-0 : goal.returns-in-0
returns-in-0 g t c =
    let old : List Element = g.E.Elements.elements c.args.elements.now in
    if_ok _ (Joins (without_run c.args.first.now c.args.count) (λ known. known) old old) c.unchanged.result
    (λ d is. subst (λ n. Joins (without_run c.args.first.now n) (λ known. known) old old d) (sym c.in-0.is)
    (subst (Joins (λ tree. tree) (λ known. known) old old) (sym (is ∙ ap (λ n. normal (covers true n nothing)) c.alive.ensures))
    (joins_nothing old (g.met.E.Elements.distinct c.args.elements.now))))
    c.unchanged.ensures

pub returns-in_ok-back-in_default : goal.returns-in_ok-back-in_default
returns-in_ok-back-in_default g t c =
    let old : List Element = g.E.Elements.elements c.args.elements.now in
    let mid : List Element = g.E.Elements.elements c.join_delete.new.elements in
    let new : List Element = g.E.Elements.elements c.join_delete-in_default.new.elements in
    let first : ElemId = c.args.first.now in
    let half : ℕ = c.args.count / 2 in
    let rest : ℕ = c.args.count - c.args.count / 2 in
    if_ok _ (Joins (without_run first c.args.count) (λ known. known) old new) c.compose.result
    (λ d is. subst (Joins (without_run first c.args.count) (λ known. known) old new) (sym is)
    (joins_both (without_run first c.args.count) (without_run first half) (without_run (shifted first half) rest) (λ known. known) (λ known. known) (λ known. known)
    old mid new c.in_ok-front-in_default.front c.in_ok-back-in_default.back
    (λ tree. ap (λ n. without_run first n tree) (halves c.args.count) ∙ without_run-add first half rest tree) (λ known. refl)
    (g.met.E.Elements.distinct c.join_delete.new.elements) c.in_ok-front-in_default.ensures c.in_ok-back-in_default.ensures))
    c.compose.ensures
