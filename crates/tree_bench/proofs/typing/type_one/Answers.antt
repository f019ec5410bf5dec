use Rattle.std.proofs.Common.{◌≡◌, ℕ, ◌+◌, Bool, List, [], ◌∷◌, ◌++◌, sym, ap, ◌∙◌, subst}
use Rattle.tt_base.specs.declared.ids.ElemId.{ElemId}
use Rattle.tt_base.specs.declared.text_ops.TextOp.{TextOp}
use Rattle.tt_base.specs.declared.text_ops.TextOp.TheVariants.{Insert}
use Rattle.replica_text.specs.Ids.{is_known}
use Rattle.replica_text.specs.Ops.{AllMayFollow, all_known_after}
use Rattle.tree_bench.specs.Typed.{at_depth, parent_at, AreTyped}
use Rattle.tree_bench.proofs.TypedLemmas.{may_be_typed, one_more_typed}
use Rattle.tree_bench.proofs.typing.type_one.Goals as goal

pub join-requires : goal.join-requires
join-requires c =
    let first : ElemId = c.args.first.now in
    let known : ElemId → Bool = is_known c.args.text.now in
    let text : c.push.new.self ≡ 120 ∷ [] = c.in_ok-push.ensures.ok ∙ ap (λ (l : List ℕ). l ++ 120 ∷ []) c.in_ok-inserted.ensures in
    let id : c.id_at.result ≡ at_depth first (c.args.typed + 1) = c.id_at.ensures ∙ ap (λ n. at_depth first (n + 1)) c.from.ensures in
    let op : Insert c.id_at.result c.parent_at.result c.push.new.self ≡ Insert (at_depth first (c.args.typed + 1)) (parent_at first c.args.parent) (120 ∷ []) =
    ap (λ i. Insert i c.parent_at.result c.push.new.self) id
    ∙ ap (λ p. Insert (at_depth first (c.args.typed + 1)) p c.push.new.self) c.parent_at.ensures
    ∙ ap (Insert (at_depth first (c.args.typed + 1)) (parent_at first c.args.parent)) text
    in
    subst (λ (o : TextOp). AllMayFollow (o ∷ []) known) (sym op) (may_be_typed first c.args.typed 120 c.args.parent known c.requires.typed c.requires.parent c.requires.index)

pub returns : goal.returns
returns c =
    let first : ElemId = c.args.first.now in
    let known : ElemId → Bool = is_known c.args.text.now in
    let text : c.push.new.self ≡ 120 ∷ [] = c.in_ok-push.ensures.ok ∙ ap (λ (l : List ℕ). l ++ 120 ∷ []) c.in_ok-inserted.ensures in
    let id : c.id_at.result ≡ at_depth first (c.args.typed + 1) = c.id_at.ensures ∙ ap (λ n. at_depth first (n + 1)) c.from.ensures in
    let op : Insert c.id_at.result c.parent_at.result c.push.new.self ≡ Insert (at_depth first (c.args.typed + 1)) (parent_at first c.args.parent) (120 ∷ []) =
    ap (λ i. Insert i c.parent_at.result c.push.new.self) id
    ∙ ap (λ p. Insert (at_depth first (c.args.typed + 1)) p c.push.new.self) c.parent_at.ensures
    ∙ ap (Insert (at_depth first (c.args.typed + 1)) (parent_at first c.args.parent)) text
    in
    subst (AreTyped first (c.args.typed + 1)) (sym (c.in_ok-join.ensures.known ∙ ap (λ (o : TextOp). all_known_after (o ∷ []) known) op))
    (one_more_typed first c.args.typed 120 (parent_at first c.args.parent) known c.requires.typed)
