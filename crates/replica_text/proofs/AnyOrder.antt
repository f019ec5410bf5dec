-- Operations that are possible in two orders leave one tree.
use Rattle.std.proofs.Common.{◌≡◌, ℕ, zero, suc, Bool, true, false, ◌||◌, List, [], ◌∷◌, ◌++◌, Option, Some, None, length, refl, sym, ap, ap₂, ◌∙◌, subst, inl, inr}
use Rattle.std.proofs.lemmas.Bool.{cases_Bool}
use Rattle.tt_base.specs.declared.ids.ElemId.{ElemId}
use Rattle.tt_base.specs.declared.elements.Element.{Element}
use Rattle.tt_base.specs.declared.text_ops.TextOp.{TextOp}
use Rattle.tt_base.specs.declared.text_ops.TextOp.TheVariants.{Insert, Delete}
use Rattle.replica_text.specs.Ids.{same, next_id, is_in_run}
use Rattle.replica_text.specs.Tree.{Tree, with_element, without}
use Rattle.replica_text.specs.Ops.{with_run, without_run, after_op, after_ops, known_after, MayBeParent, IsRunKnown, MayFollow, AllMayFollow}
use Rattle.replica_text.specs.Laws.{IsNotParent, IsRearranged}
use Rattle.replica_text.proofs.OrderLemmas.{same_one, same_self, never}
use Rattle.replica_text.proofs.MemberLemmas.{or_cases, or_true, none_left, none_right}
use Rattle.replica_text.proofs.OrderOfArrival.{elements_commute, deletions_commute, deletion_and_element_commute}

-- an id outside a run
abbrev IsOutside : Option ElemId → ElemId → ℕ → Type 0
IsOutside None first count = Unit {0}
IsOutside (Some id) first count = is_in_run first count id ≡ false

not_first : (first : ElemId) (count : ℕ) (id : ElemId) → is_in_run first (suc count) id ≡ false → first ≡ id → ⊥
not_first first count id h is =
    never (same first id) (subst (λ (i : ElemId). same first i ≡ true) is (same_self first)) (none_left (same first id) (is_in_run (next_id first) count id) h)

not_parent : (parent : Option ElemId) (first : ElemId) (count : ℕ) → IsOutside parent first (suc count) → IsNotParent parent first
not_parent None first count h = tt
not_parent (Some p) first count h = λ is. not_first first count p h (sym is)

outside_next : (parent : Option ElemId) (first : ElemId) (count : ℕ) → IsOutside parent first (suc count) → IsOutside parent (next_id first) count
outside_next None first count h = tt
outside_next (Some p) first count h = none_right (same first p) (is_in_run (next_id first) count p) h

first_in : (first : ElemId) (count : ℕ) → is_in_run first (suc count) first ≡ true
first_in first count = ap (λ b. b || is_in_run (next_id first) count first) (same_self first)

later_in : (first : ElemId) (count : ℕ) (id : ElemId) → is_in_run (next_id first) count id ≡ true → is_in_run first (suc count) id ≡ true
later_in first count id h = ap (λ b. same first id || b) h ∙ or_true (same first id)

-- a run and an element, two runs, a run and deletions, and deletions may come in any order
element_run : (q : Option ElemId) (z : Element) (first : ElemId) (p : Option ElemId) (text : List ℕ) (tree : Tree) → IsNotParent p z.id → IsOutside q first (length text)
    → is_in_run first (length text) z.id ≡ false → with_run first p text (with_element q z tree) ≡ with_element q z (with_run first p text tree)
element_run q z first p [] tree u o d = refl
element_run q z first p (ch ∷ text) tree u o d =
    let new : Element = record { id = first; ch = ch; alive = true } in
    let differ : first ≡ z.id → ⊥ = not_first first (length text) z.id d in
    ap (with_run (next_id first) (Some first) text) (elements_commute p q new z tree (record { up = u; down = not_parent q first (length text) o; differ = differ }))
    ∙ element_run q z (next_id first) (Some first) text (with_element p new tree) differ (outside_next q first (length text) o)
    (none_right (same first z.id) (is_in_run (next_id first) (length text) z.id) d)

run_run : (g : ElemId) (q : Option ElemId) (other : List ℕ) (first : ElemId) (p : Option ElemId) (text : List ℕ) (tree : Tree) → IsOutside p g (length other) → IsOutside q first (length text)
    → ((id : ElemId) → is_in_run g (length other) id ≡ true → is_in_run first (length text) id ≡ false)
    → with_run first p text (with_run g q other tree) ≡ with_run g q other (with_run first p text tree)
run_run g q [] first p text tree u o d = refl
run_run g q (ch ∷ other) first p text tree u o d =
    let z : Element = record { id = g; ch = ch; alive = true } in
    let apart : is_in_run first (length text) g ≡ false = d g (first_in g (length other)) in
    run_run (next_id g) (Some g) other first p text (with_element q z tree) (outside_next p g (length other) u) apart (λ id h. d id (later_in g (length other) id h))
    ∙ ap (with_run (next_id g) (Some g) other) (element_run q z first p text tree (not_parent p g (length other) u) o apart)

deletion_run : (id first : ElemId) (p : Option ElemId) (text : List ℕ) (tree : Tree) → is_in_run first (length text) id ≡ false
    → without id (with_run first p text tree) ≡ with_run first p text (without id tree)
deletion_run id first p [] tree h = refl
deletion_run id first p (ch ∷ text) tree h =
    let new : Element = record { id = first; ch = ch; alive = true } in
    deletion_run id (next_id first) (Some first) text (with_element p new tree) (none_right (same first id) (is_in_run (next_id first) (length text) id) h)
    ∙ ap (with_run (next_id first) (Some first) text) (deletion_and_element_commute id p new tree (λ is. not_first first (length text) id h (sym is)))

deletions_run : (id : ElemId) (count : ℕ) (first : ElemId) (p : Option ElemId) (text : List ℕ) (tree : Tree)
    → ((i : ElemId) → is_in_run id count i ≡ true → is_in_run first (length text) i ≡ false)
    → without_run id count (with_run first p text tree) ≡ with_run first p text (without_run id count tree)
deletions_run id zero first p text tree h = refl
deletions_run id (suc count) first p text tree h =
    ap (without_run (next_id id) count) (deletion_run id first p text tree (h id (first_in id count)))
    ∙ deletions_run (next_id id) count first p text (without id tree) (λ i k. h i (later_in id count i k))

deletion_deletions : (id first : ElemId) (count : ℕ) (tree : Tree) → without id (without_run first count tree) ≡ without_run first count (without id tree)
deletion_deletions id first zero tree = refl
deletion_deletions id first (suc count) tree =
    deletion_deletions id (next_id first) count (without first tree) ∙ ap (without_run (next_id first) count) (deletions_commute id first tree)

deletions_deletions : (id : ElemId) (many : ℕ) (first : ElemId) (count : ℕ) (tree : Tree)
    → without_run id many (without_run first count tree) ≡ without_run first count (without_run id many tree)
deletions_deletions id zero first count tree = refl
deletions_deletions id (suc many) first count tree =
    ap (without_run (next_id id) many) (deletion_deletions id first count tree) ∙ deletions_deletions (next_id id) many first count (without id tree)

-- what a run of ids tells of each of them
run_at : (answer : Bool) (first : ElemId) (count : ℕ) (known : ElemId → Bool) → IsRunKnown answer first count known → (id : ElemId) → is_in_run first count id ≡ true → known id ≡ answer
run_at answer first zero known h id k = cc
run_at answer first (suc count) known h id k =
    or_cases (same first id) (is_in_run (next_id first) count id) k
    (λ e. subst (λ (i : ElemId). known i ≡ answer) (same_one first id e) h.0)
    (λ e. run_at answer (next_id first) count known h.1 id e)

known_outside : (id first : ElemId) (count : ℕ) (known : ElemId → Bool) → IsRunKnown false first count known → known id ≡ true → is_in_run first count id ≡ false
known_outside id first count known h k = elim (cases_Bool (is_in_run first count id)) [
  | inl e ↦ never (known id) k (run_at false first count known h id e)
  | inr e ↦ e
]

parent_outside : (parent : Option ElemId) (id first : ElemId) (count : ℕ) (known : ElemId → Bool) → IsRunKnown false first count known → MayBeParent parent id known → IsOutside parent first count
parent_outside None id first count known h k = tt
parent_outside (Some p) id first count known h k = known_outside p first count known h k.0

-- the new ids of an operation are not known
abbrev IsFresh : TextOp → (ElemId → Bool) → Type 0
IsFresh (Insert first parent text) known = IsRunKnown false first (length text) known
IsFresh (Delete first count) known = Unit {0}

runs_apart : (g : ElemId) (m : ℕ) (first : ElemId) (n : ℕ) (known : ElemId → Bool) → IsRunKnown false first n (λ id. is_in_run g m id || known id)
    → (id : ElemId) → is_in_run g m id ≡ true → is_in_run first n id ≡ false
runs_apart g m first n known h id k = elim (cases_Bool (is_in_run first n id)) [
  | inl e ↦ never (is_in_run g m id) k (none_left (is_in_run g m id) (known id) (run_at false first n (λ i. is_in_run g m i || known i) h id e))
  | inr e ↦ e
]

ops_commute : (a u : TextOp) (known : ElemId → Bool) (tree : Tree) → MayFollow a known → MayFollow u known → IsFresh a (known_after u known)
    → after_op a (after_op u tree) ≡ after_op u (after_op a tree)
ops_commute (Insert first p text) (Insert g q other) known tree h k f =
    run_run g q other first p text tree (parent_outside p first g (length other) known k.fresh h.below) (parent_outside q g first (length text) known h.fresh k.below)
    (runs_apart g (length other) first (length text) known f)
ops_commute (Insert first p text) (Delete id count) known tree h k f =
    sym (deletions_run id count first p text tree (λ i e. known_outside i first (length text) known h.fresh (run_at true id count known k.there i e)))
ops_commute (Delete id count) (Insert first p text) known tree h k f =
    deletions_run id count first p text tree (λ i e. known_outside i first (length text) known k.fresh (run_at true id count known h.there i e))
ops_commute (Delete id many) (Delete first count) known tree h k f = deletions_deletions id many first count tree

-- what is possible stays possible behind an operation that is apart
wider : (op : TextOp) (known : ElemId → Bool) (id : ElemId) → known id ≡ true → known_after op known id ≡ true
wider (Insert first parent text) known id h = ap (λ b. is_in_run first (length text) id || b) h ∙ or_true (is_in_run first (length text) id)
wider (Delete first count) known id h = h

narrower : (op : TextOp) (known : ElemId → Bool) (id : ElemId) → known_after op known id ≡ false → known id ≡ false
narrower (Insert first parent text) known id h = none_right (is_in_run first (length text) id) (known id) h
narrower (Delete first count) known id h = h

run_to : (answer : Bool) (first : ElemId) (count : ℕ) (known more : ElemId → Bool) → ((id : ElemId) → is_in_run first count id ≡ true → known id ≡ answer → more id ≡ answer)
    → IsRunKnown answer first count known → IsRunKnown answer first count more
run_to answer first zero known more w h = tt
run_to answer first (suc count) known more w h =
    (w first (first_in first count) h.0, run_to answer (next_id first) count known more (λ id k. w id (later_in first count id k)) h.1)

parent_wider : (op : TextOp) (parent : Option ElemId) (id : ElemId) (known : ElemId → Bool) → MayBeParent parent id known → MayBeParent parent id (known_after op known)
parent_wider op None id known h = tt
parent_wider op (Some p) id known h = (wider op known p h.0, h.1)

may_behind : (op u : TextOp) (known : ElemId → Bool) → MayFollow u known → IsFresh u (known_after op known) → MayFollow u (known_after op known)
may_behind op (Insert first parent text) known h f = record { below = parent_wider op parent first known h.below; fresh = f; fits = h.fits }
may_behind op (Delete first count) known h f = record {
  there = run_to true first count known (known_after op known) (λ id k e. wider op known id e) h.there;
  fits = h.fits;
}

fresh_before : (op a : TextOp) (known : ElemId → Bool) → IsFresh a (known_after op known) → IsFresh a known
fresh_before op (Insert first parent text) known f = run_to false first (length text) (known_after op known) known (λ id k e. narrower op known id e) f
fresh_before op (Delete first count) known f = tt

fresh_now : (a : TextOp) (known : ElemId → Bool) → MayFollow a known → IsFresh a known
fresh_now (Insert first parent text) known h = h.fresh
fresh_now (Delete first count) known h = tt

-- an operation is fresh before those that come before it
fresh_first : (us : List TextOp) (a : TextOp) (vs : List TextOp) (known : ElemId → Bool) → AllMayFollow (us ++ a ∷ vs) known → IsFresh a known
fresh_first [] a vs known h = fresh_now a known h.0
fresh_first (u ∷ us) a vs known h = fresh_before u a known (fresh_first us a vs (known_after u known) h.1)

fresh_swapped : (a u : TextOp) (known : ElemId → Bool) → IsFresh a (known_after u known) → IsFresh u known → IsFresh u (known_after a known)
fresh_swapped (Insert first p text) (Insert g q other) known f k =
    run_to false g (length other) known (λ id. is_in_run first (length text) id || known id)
    (λ id e h. ap₂ (λ x y. x || y) (runs_apart g (length other) first (length text) known f id e) h) k
fresh_swapped (Delete first count) (Insert g q other) known f k = k
fresh_swapped a (Delete first count) known f k = tt

or_swap : (a b c : Bool) → (a || (b || c)) ≡ (b || (a || c))
or_swap true true c = refl
or_swap true false c = refl
or_swap false b c = refl

known_swapped : (a u : TextOp) (known : ElemId → Bool) → known_after a (known_after u known) ≡ known_after u (known_after a known)
known_swapped (Insert first p text) (Insert g q other) known = λ i id. or_swap (is_in_run first (length text) id) (is_in_run g (length other) id) (known id) i
known_swapped (Insert first p text) (Delete g count) known = refl
known_swapped (Delete first count) u known = refl

-- an operation that may come first may stand in front of all before it
record IsInFront (us : List TextOp) (a : TextOp) (vs : List TextOp) (known : ElemId → Bool) : Type 0 where
  pub tree : (tree : Tree) → after_ops (us ++ a ∷ vs) tree ≡ after_ops (us ++ vs) (after_op a tree)
  pub may : AllMayFollow (us ++ vs) (known_after a known)

in_front : (us : List TextOp) (a : TextOp) (vs : List TextOp) (known : ElemId → Bool) → MayFollow a known → AllMayFollow (us ++ a ∷ vs) known → IsInFront us a vs known
in_front [] a vs known h k = record { tree = λ tree. refl; may = k.1 }
in_front (u ∷ us) a vs known h k =
    let fresh : IsFresh a (known_after u known) = fresh_first us a vs (known_after u known) k.1 in
    let rest : IsInFront us a vs (known_after u known) = in_front us a vs (known_after u known) (may_behind u a known h fresh) k.1 in
    record {
      tree = λ tree. rest.tree (after_op u tree) ∙ ap (after_ops (us ++ vs)) (ops_commute a u known tree h k.0 fresh);
      may = (
        may_behind a u known k.0 (fresh_swapped a u known fresh (fresh_now u known k.0)),
        subst (λ (f : ElemId → Bool). AllMayFollow (us ++ vs) f) (known_swapped a u known) rest.may,
      );
    }

pub any_order : (known : ElemId → Bool) (xs ys : List TextOp) (tree : Tree) → IsRearranged xs ys → AllMayFollow xs known → AllMayFollow ys known → after_ops xs tree ≡ after_ops ys tree
any_order known [] ys tree r h k = ap (λ (ops : List TextOp). after_ops ops tree) (sym r)
any_order known (a ∷ xs) ys tree r h k =
    let moved : IsInFront r.front a r.behind known =
    in_front r.front a r.behind known h.0 (subst (λ (ops : List TextOp). AllMayFollow ops known) r.whole k) in
    any_order (known_after a known) xs (r.front ++ r.behind) (after_op a tree) r.rest h.1 moved.may
    ∙ sym (moved.tree tree)
    ∙ ap (λ (ops : List TextOp). after_ops ops tree) (sym r.whole)
