-- Operations, and runs of deletions, one part after another.
use Rattle.std.proofs.Common.{◌≡◌, ℕ, zero, suc, ◌+◌, Bool, List, [], ◌∷◌, ◌++◌, refl, sym, ap, ◌∙◌, subst, arith}
use Rattle.tt_base.specs.declared.ids.ElemId.{ElemId}
use Rattle.tt_base.specs.declared.text_ops.TextOp.{TextOp}
use Rattle.replica_text.specs.Ids.{next_id, shifted}
use Rattle.replica_text.specs.Tree.{Tree, without}
use Rattle.replica_text.specs.Ops.{without_run, after_op, after_ops, known_after, all_known_after, IsRunKnown, MayFollow, AllMayFollow}
use Rattle.replica_text.proofs.PlaceLemmas.{shifted_none, shifted_next}

pub after_ops-append : (xs ys : List TextOp) (tree : Tree) → after_ops (xs ++ ys) tree ≡ after_ops ys (after_ops xs tree)
after_ops-append [] ys tree = refl
after_ops-append (x ∷ xs) ys tree = after_ops-append xs ys (after_op x tree)

pub all_known_after-append : (xs ys : List TextOp) (known : ElemId → Bool) → all_known_after (xs ++ ys) known ≡ all_known_after ys (all_known_after xs known)
all_known_after-append [] ys known = refl
all_known_after-append (x ∷ xs) ys known = all_known_after-append xs ys (known_after x known)

pub may_front : (xs ys : List TextOp) (known : ElemId → Bool) → AllMayFollow (xs ++ ys) known → AllMayFollow xs known
may_front [] ys known h = tt
may_front (x ∷ xs) ys known h = (h.0, may_front xs ys (known_after x known) h.1)

pub may_back : (xs ys : List TextOp) (known : ElemId → Bool) → AllMayFollow (xs ++ ys) known → AllMayFollow ys (all_known_after xs known)
may_back [] ys known h = h
may_back (x ∷ xs) ys known h = may_back xs ys (known_after x known) h.1

none_more : (n : ℕ) → 0 + n ≡ n
none_more n = omega arith

one_more : (m n : ℕ) → suc m + n ≡ suc (m + n)
one_more m n = omega arith

pub without_run-add : (first : ElemId) (m n : ℕ) (tree : Tree) → without_run first (m + n) tree ≡ without_run (shifted first m) n (without_run first m tree)
without_run-add first zero n tree =
    ap (λ k. without_run first k tree) (none_more n) ∙ ap (λ (i : ElemId). without_run i n tree) (sym (shifted_none first))
without_run-add first (suc m) n tree =
    ap (λ k. without_run first k tree) (one_more m n)
    ∙ without_run-add (next_id first) m n (without first tree)
    ∙ ap (λ (i : ElemId). without_run i n (without_run (next_id first) m (without first tree))) (shifted_next first m)

pub run_front : (answer : Bool) (first : ElemId) (m n : ℕ) (known : ElemId → Bool) → IsRunKnown answer first (m + n) known → IsRunKnown answer first m known
run_front answer first zero n known h = tt
run_front answer first (suc m) n known h =
    let all : IsRunKnown answer first (suc (m + n)) known = subst (λ k. IsRunKnown answer first k known) (one_more m n) h in
    (all.0, run_front answer (next_id first) m n known all.1)

pub run_back : (answer : Bool) (first : ElemId) (m n : ℕ) (known : ElemId → Bool) → IsRunKnown answer first (m + n) known → IsRunKnown answer (shifted first m) n known
run_back answer first zero n known h =
    subst (λ (i : ElemId). IsRunKnown answer i n known) (sym (shifted_none first)) (subst (λ k. IsRunKnown answer first k known) (none_more n) h)
run_back answer first (suc m) n known h =
    let all : IsRunKnown answer first (suc (m + n)) known = subst (λ k. IsRunKnown answer first k known) (one_more m n) h in
    subst (λ (i : ElemId). IsRunKnown answer i n known) (shifted_next first m) (run_back answer (next_id first) m n known all.1)

-- one operation more, and one id of a run more
pub may_more : (ops : List TextOp) (op : TextOp) (known : ElemId → Bool) → AllMayFollow ops known → MayFollow op (all_known_after ops known) → AllMayFollow (ops ++ op ∷ []) known
may_more [] op known h k = (k, tt)
may_more (x ∷ ops) op known h k = (h.0, may_more ops op (known_after x known) h.1 k)

pub run_known_more : (answer : Bool) (first : ElemId) (count : ℕ) (known : ElemId → Bool) → IsRunKnown answer first count known → known (shifted first count) ≡ answer
    → IsRunKnown answer first (suc count) known
run_known_more answer first zero known h k = (ap known (sym (shifted_none first)) ∙ k, tt)
run_known_more answer first (suc count) known h k =
    (h.0, run_known_more answer (next_id first) count known h.1 (ap known (shifted_next first count) ∙ k))
