use Rattle.std.proofs.Common.{◌≡◌, ℕ, ◌/◌, ◌<◌, ◌≤◌, true, List, [], ◌∷◌, ◌++◌, length, take, drop, get_or, Bool, IfOk, subst, sym, ap, ap₂, ◌∙◌, arith}
use Rattle.std.proofs.lemmas.List.{take-append-drop, nil_from_length}
use Rattle.delta.specs.Cells.{covers, nothing, normal}
use Rattle.tt_base.specs.declared.ids.ElemId.{ElemId}
use Rattle.tt_base.specs.declared.elements.Element.{Element}
use Rattle.tt_base.specs.declared.text_ops.TextOp.{TextOp}
use Rattle.replica_text.specs.Ids.{is_known}
use Rattle.replica_text.specs.Ops.{AllMayFollow, after_ops, all_known_after}
use Rattle.replica_text.specs.Joined.{Joins}
use Rattle.replica_text.proofs.OpsLemmas.{after_ops-append, all_known_after-append, may_front, may_back}
use Rattle.replica_text.proofs.JoinLemmas.{joins_both, joins_fit, joins_nothing}
use Rattle.replica_text.proofs.CutLemmas.{if_ok}
use Rattle.replica_text.proofs.joining.+join_all.Goals as goal

-- the two halves are the whole
halves : (ops front back : List TextOp) (m : ℕ) → front ≡ take m ops → back ≡ drop m ops → ops ≡ front ++ back
halves ops front back m f b = sym (take-append-drop m ops) ∙ ap₂ (λ xs ys. xs ++ ys) (sym f) (sym b)

one_op : (ops : List TextOp) (op : TextOp) → 1 ≤ length ops → length ops < 2 → op ≡ get_or ops 0 op → ops ≡ op ∷ []
one_op [] op l h is = absurd (omega (arith, l))
one_op (x ∷ []) op l h is = ap (λ (y : TextOp). y ∷ []) (sym is)
one_op (x ∷ (y ∷ ops)) op l h is = absurd (omega (arith, h))

pub join_all-requires : goal.join_all-requires
join_all-requires g t c κs within =
    let known : ElemId → Bool = is_known (g.E.Elements.elements c.args.elements.now) in
    let whole : c.args.ops.now ≡ c.split_at.result.0.now ++ c.split_at.result.1.now =
    halves c.args.ops.now c.split_at.result.0.now c.split_at.result.1.now (length c.args.ops.now / 2) c.split_at.ensures.front c.split_at.ensures.back in
    let smaller : length c.split_at.result.0.now < t = omega arith in
    (smaller, (within, may_front c.split_at.result.0.now c.split_at.result.1.now known (subst (λ (l : List TextOp). AllMayFollow l known) whole c.requires)))

pub join_all-requires-in_default : goal.join_all-requires-in_default
join_all-requires-in_default g t c κs within =
    let known : ElemId → Bool = is_known (g.E.Elements.elements c.args.elements.now) in
    let whole : c.args.ops.now ≡ c.split_at.result.0.now ++ c.split_at.result.1.now =
    halves c.args.ops.now c.split_at.result.0.now c.split_at.result.1.now (length c.args.ops.now / 2) c.split_at.ensures.front c.split_at.ensures.back in
    let smaller : length c.split_at.result.1.now < t = omega arith in (
      smaller,
      (
        within,
        subst (AllMayFollow c.split_at.result.1.now) (sym c.in_ok-first-in_default.ensures.known)
            (may_back c.split_at.result.0.now c.split_at.result.1.now known (subst (λ (l : List TextOp). AllMayFollow l known) whole c.requires)),
      ),
    )

pub compose-requires : goal.compose-requires
compose-requires g t c =
    joins_fit _ _ _ _ (g.E.Elements.elements c.args.elements.now) (g.E.Elements.elements c.join_all.new.elements) (g.E.Elements.elements c.join_all-in_default.new.elements)
    c.in_ok-first-in_default.first c.in_ok-second-in_default.second (g.met.E.Elements.distinct c.join_all.new.elements)
    c.in_ok-first-in_default.ensures c.in_ok-second-in_default.ensures

pub returns-in-empty : goal.returns-in-empty
returns-in-empty g t c =
    let old : List Element = g.E.Elements.elements c.args.elements.now in
    let none : c.args.ops.now ≡ [] = nil_from_length c.args.ops.now (omega arith) in
    if_ok _ (Joins (after_ops c.args.ops.now) (all_known_after c.args.ops.now) old old) c.unchanged.result
    (λ d is. subst (λ (l : List TextOp). Joins (after_ops l) (all_known_after l) old old d) (sym none)
    (subst (Joins (λ tree. tree) (λ known. known) old old) (sym (is ∙ ap (λ n. normal (covers true n nothing)) c.alive.ensures))
    (joins_nothing old (g.met.E.Elements.distinct c.args.elements.now))))
    c.unchanged.ensures

pub returns-in-len1 : goal.returns-in-len1
returns-in-len1 g t c =
    let one : c.args.ops.now ≡ c.op-item.result ∷ [] = one_op c.args.ops.now c.op-item.result (omega arith) (omega arith) c.op-item.is in
    subst (λ (l : List TextOp). IfOk c.join_one.result (Joins (after_ops l) (all_known_after l) (g.E.Elements.elements c.args.elements.now) (g.E.Elements.elements c.join_one.new.elements)))
    (sym one) c.join_one.ensures

pub returns-in_ok-second-in_default : goal.returns-in_ok-second-in_default
returns-in_ok-second-in_default g t c =
    let old : List Element = g.E.Elements.elements c.args.elements.now in
    let mid : List Element = g.E.Elements.elements c.join_all.new.elements in
    let new : List Element = g.E.Elements.elements c.join_all-in_default.new.elements in
    let front : List TextOp = c.split_at.result.0.now in
    let back : List TextOp = c.split_at.result.1.now in
    let whole : c.args.ops.now ≡ front ++ back =
    halves c.args.ops.now front back (length c.args.ops.now / 2) c.split_at.ensures.front c.split_at.ensures.back in
    if_ok _ (Joins (after_ops c.args.ops.now) (all_known_after c.args.ops.now) old new) c.compose.result
    (λ d is. subst (Joins (after_ops c.args.ops.now) (all_known_after c.args.ops.now) old new) (sym is)
    (joins_both (after_ops c.args.ops.now) (after_ops front) (after_ops back) (all_known_after c.args.ops.now) (all_known_after front) (all_known_after back)
    old mid new c.in_ok-first-in_default.first c.in_ok-second-in_default.second
    (λ tree. ap (λ (l : List TextOp). after_ops l tree) whole ∙ after_ops-append front back tree)
    (λ known. ap (λ (l : List TextOp). all_known_after l known) whole ∙ all_known_after-append front back known)
    (g.met.E.Elements.distinct c.join_all.new.elements) c.in_ok-first-in_default.ensures c.in_ok-second-in_default.ensures))
    c.compose.ensures
