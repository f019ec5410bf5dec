-- Behind possible operations a tree is a tree, its ids are distinct, and just the ids that are known are there.
use Rattle.std.proofs.Common.{◌≡◌, ◌⊎◌, inl, inr, ℕ, zero, suc, Bool, true, false, cond, ◌||◌, refl, sym, ap, ap₂, ◌∙◌, subst, List, [], ◌∷◌, ◌++◌, length, Option, Some, None, arith}
use Rattle.tt_base.specs.Elements.{IsNew, AreDistinct, dead}
use Rattle.tt_base.specs.declared.ids.ElemId.{ElemId}
use Rattle.tt_base.specs.declared.elements.Element.{Element}
use Rattle.tt_base.specs.declared.text_ops.TextOp.{TextOp}
use Rattle.tt_base.specs.declared.text_ops.TextOp.TheVariants.{Insert, Delete}
use Rattle.tt_base.proofs.ElementLemmas.{distinct_with, distinct-killed}
use Rattle.replica_text.specs.Ids.{less, same, next_id, is_in_run, is_known}
use Rattle.replica_text.specs.Tree.{Tree, Leaf, walk, IsTree, with_element, without}
use Rattle.replica_text.specs.Ops.{with_run, without_run, after_op, after_ops, known_after, all_known_after, MayBeParent, IsRunKnown, MayInsert, MayFollow, AllMayFollow}
use Rattle.replica_text.specs.Joined.{Grows}
use Rattle.replica_text.proofs.GrowsLemmas.{grows_itself, grows_behind, grows_between, grows_trans, new_before}
use Rattle.replica_text.specs.Placed.{passing, behind, placed}
use Rattle.replica_text.proofs.OrderLemmas.{less_trans, less_other, less_next, same_self, other_same}
use Rattle.replica_text.proofs.MemberLemmas.{Has, known_has, unknown_new, not_before, back_distinct}
use Rattle.replica_text.proofs.SkipLemmas.{IsParent, element_walk, element_tree}
use Rattle.replica_text.proofs.RunLemmas.{parent_known, tombstone_walk, killed_at, WalksTo}
use Rattle.replica_views.proofs.LayerLemmas.{IsPut}

abbrev Known : Type 0
Known = ElemId → Bool

-- a tree with distinct ids, of which just these are known
pub record IsWell (tree : Tree) (known : Known) : Type 0 where
  pub is_tree : IsTree tree
  pub distinct : AreDistinct (walk tree)
  pub known_is : is_known (walk tree) ≡ known

-- ---- an element more

one_more : (e : Element) (xs ys : List Element) → IsPut e xs ys → (x : Element) → IsPut e (x ∷ xs) (x ∷ ys)
one_more e xs ys put x = record {
  front = x ∷ put.front;
  behind = put.behind;
  without = ap (λ (l : List Element). x ∷ l) put.without;
  with_it = ap (λ (l : List Element). x ∷ l) put.with_it;
}

passing_put : (new : Element) (xs : List Element) → IsPut new xs (passing new xs)
passing_put new [] = record { front = []; behind = []; without = refl; with_it = refl }
passing_put new (x ∷ xs) = by (passing_put new xs) (less new.id x.id) where
  by : IsPut new xs (passing new xs) → (b : Bool) → IsPut new (x ∷ xs) (cond b (x ∷ passing new xs) (new ∷ (x ∷ xs)))
  by rest true = one_more new xs (passing new xs) rest x
  by rest false = record { front = []; behind = x ∷ xs; without = refl; with_it = refl }

behind_put : (parent : ElemId) (new : Element) (xs : List Element) → Has parent xs → IsPut new xs (behind parent new xs)
behind_put parent new [] has = absurd has
behind_put parent new (x ∷ xs) has = by (λ h. behind_put parent new xs h) (same parent x.id) refl has where
  by : (Has parent xs → IsPut new xs (behind parent new xs)) → (b : Bool) → same parent x.id ≡ b → (x.id ≡ parent) ⊎ Has parent xs
      → IsPut new (x ∷ xs) (cond b (x ∷ passing new xs) (x ∷ behind parent new xs))
  by rest true is has = one_more new xs (passing new xs) (passing_put new xs) x
  by rest false is (inl here) =
      let both : true ≡ false = sym (subst (λ (id : ElemId). same parent id ≡ true) (sym here) (same_self parent)) ∙ is in cc
  by rest false is (inr has) = one_more new xs (behind parent new xs) (rest has) x

placed_put : (parent : Option ElemId) (new : Element) (xs : List Element) → IsParent parent new.id xs → IsPut new xs (placed parent new xs)
placed_put None new xs is = passing_put new xs
placed_put (Some p) new xs is = behind_put p new xs is.0

known_with : (e : Element) (xs ys : List Element) (id : ElemId) → is_known (xs ++ e ∷ ys) id ≡ (same e.id id || is_known (xs ++ ys) id)
known_with e [] ys id = refl
known_with e (x ∷ xs) ys id =
    ap (λ (b : Bool). same x.id id || b) (known_with e xs ys id) ∙ swapped (same x.id id) (same e.id id) (is_known (xs ++ ys) id) where
      swapped : (a b c : Bool) → (a || (b || c)) ≡ (b || (a || c))
      swapped true true c = refl
      swapped true false c = refl
      swapped false b c = refl

module _ (parent : Option ElemId) (new : Element) (tree : Tree) (known : Known) (well : IsWell tree known)
    (may : MayBeParent parent new.id known) (fresh : known new.id ≡ false) where
  is_parent : IsParent parent new.id (walk tree)
  is_parent = parent_known parent new.id (walk tree) (subst (MayBeParent parent new.id) (sym well.known_is) may)

  is_new : IsNew new.id (walk tree)
  is_new = unknown_new new.id (walk tree) (ap (λ (f : Known). f new.id) well.known_is ∙ fresh)

  put : IsPut new (walk tree) (placed parent new (walk tree))
  put = placed_put parent new (walk tree) is_parent

  walks : walk (with_element parent new tree) ≡ put.front ++ new ∷ put.behind
  walks = element_walk parent new tree well.is_tree well.distinct is_parent ∙ put.with_it

  pub well_with : IsWell (with_element parent new tree) (λ id. same new.id id || known id)
  well_with = record {
    is_tree = element_tree parent new tree well.is_tree is_new is_parent;
    distinct = subst AreDistinct (sym walks)
        (distinct_with new put.front put.behind (subst (IsNew new.id) put.without is_new) (subst AreDistinct put.without well.distinct));
    known_is =
        ap is_known walks
        ∙ (λ i id. known_with new put.front put.behind id i)
        ∙ ap (λ (f : Known). (λ id. same new.id id || f id)) (sym (ap is_known put.without) ∙ well.known_is);
  }

  -- the elements grow by it
  pub grows_with : Grows (walk tree) (walk tree) (walk (with_element parent new tree))
  grows_with =
      subst (λ (xs : List Element). Grows (walk tree) xs (walk (with_element parent new tree))) (sym put.without)
      (subst (Grows (walk tree) (put.front ++ put.behind)) (sym walks)
      (grows_behind (walk tree) put.front put.behind (new ∷ put.behind) (grows_between (walk tree) (new ∷ []) put.behind (is_new, tt))))

-- ---- runs

run_past : (first next : ElemId) (count : ℕ) (known : Known) → less first next ≡ true → IsRunKnown false next count known
    → IsRunKnown false next count (λ id. same first id || known id)
run_past first next zero known lt run = tt
run_past first next (suc count) known lt run = (
  ap₂ (λ (a b : Bool). a || b) (other_same first next (less_other first next lt)) run.0,
  run_past first (next_id next) count known (less_trans first next (next_id next) lt (less_next next)) run.1,
)

or_turned : (a b c : Bool) → (b || (a || c)) ≡ ((a || b) || c)
or_turned true true c = refl
or_turned true false c = refl
or_turned false b c = refl

pub well_run : (text : List ℕ) (first : ElemId) (parent : Option ElemId) (tree : Tree) (known : Known) → IsWell tree known
    → MayInsert first parent (length text) known → IsWell (with_run first parent text tree) (λ id. is_in_run first (length text) id || known id)
well_run [] first parent tree known well may = well
well_run (ch ∷ text) first parent tree known well may =
    let new : Element = record { id = first; ch = ch; alive = true } in
    let more : Known = λ id. same first id || known id in
    let fits = may.fits in
    subst (IsWell (with_run (next_id first) (Some first) text (with_element parent new tree)))
    (λ i id. or_turned (same first id) (is_in_run (next_id first) (length text) id) (known id) i)
    (well_run text (next_id first) (Some first) (with_element parent new tree) more
    (well_with parent new tree known well may.below may.fresh.0)
    (record {
      below = (ap (λ (b : Bool). b || known first) (same_self first), less_next first);
      fresh = run_past first (next_id first) (length text) known (less_next first) may.fresh.1;
      fits = omega (arith, fits);
    }))

-- ---- tombstones

record IsSplit (id : ElemId) (xs : List Element) : Type 0 where
  front : List Element
  element : Element
  behind : List Element
  whole : xs ≡ front ++ element ∷ behind
  id_is : element.id ≡ id

split_at : (id : ElemId) (xs : List Element) → Has id xs → IsSplit id xs
split_at id [] has = absurd has
split_at id (x ∷ xs) (inl is) = record { front = []; element = x; behind = xs; whole = refl; id_is = is }
split_at id (x ∷ xs) (inr has) =
    let rest : IsSplit id xs = split_at id xs has in
    record { front = x ∷ rest.front; element = rest.element; behind = rest.behind; whole = ap (λ (l : List Element). x ∷ l) rest.whole; id_is = rest.id_is }

known_dead : (xs ys : List Element) (e : Element) (id : ElemId) → is_known (xs ++ dead e ∷ ys) id ≡ is_known (xs ++ e ∷ ys) id
known_dead [] ys e id = refl
known_dead (x ∷ xs) ys e id = ap (λ (b : Bool). same x.id id || b) (known_dead xs ys e id)

pub well_without : (id : ElemId) (tree : Tree) (known : Known) → IsWell tree known → known id ≡ true → IsWell (without id tree) known
well_without id tree known well there =
    let cut : IsSplit id (walk tree) = split_at id (walk tree) (known_has id (walk tree) (ap (λ (f : Known). f id) well.known_is ∙ there)) in
    let e : Element = cut.element in
    let distinct : AreDistinct (cut.front ++ e ∷ cut.behind) = subst AreDistinct cut.whole well.distinct in
    let new_front : IsNew id cut.front =
    subst (λ (i : ElemId). IsNew i cut.front) cut.id_is (not_before e.id cut.front (e ∷ cut.behind) distinct (inl refl)) in
    let new_behind : IsNew id cut.behind =
    subst (λ (i : ElemId). IsNew i cut.behind) cut.id_is (back_distinct cut.front (e ∷ cut.behind) distinct).0 in
    let to : WalksTo (without id tree) (cut.front ++ dead e ∷ cut.behind) =
    tombstone_walk id tree cut.front cut.behind e well.is_tree cut.whole cut.id_is new_front new_behind in
    record {
      is_tree = to.is_tree;
      distinct = subst AreDistinct (killed_at cut.front cut.behind e ∙ sym to.walks)
          (distinct-killed (cut.front ++ e ∷ cut.behind) (length cut.front) distinct);
      known_is =
          ap is_known to.walks ∙ (λ i q. known_dead cut.front cut.behind e q i) ∙ ap is_known (sym cut.whole) ∙ well.known_is;
    }

well_without_run : (count : ℕ) (first : ElemId) (tree : Tree) (known : Known) → IsWell tree known → IsRunKnown true first count known
    → IsWell (without_run first count tree) known
well_without_run zero first tree known well run = well
well_without_run (suc count) first tree known well run =
    well_without_run count (next_id first) (without first tree) known (well_without first tree known well run.0) run.1

-- the elements stay in their order, and one becomes a tombstone
grows_without : (id : ElemId) (tree : Tree) (known : Known) → IsWell tree known → known id ≡ true → Grows (walk tree) (walk tree) (walk (without id tree))
grows_without id tree known well there =
    let cut : IsSplit id (walk tree) = split_at id (walk tree) (known_has id (walk tree) (ap (λ (f : Known). f id) well.known_is ∙ there)) in
    let e : Element = cut.element in
    let distinct : AreDistinct (cut.front ++ e ∷ cut.behind) = subst AreDistinct cut.whole well.distinct in
    let to : WalksTo (without id tree) (cut.front ++ dead e ∷ cut.behind) =
    tombstone_walk id tree cut.front cut.behind e well.is_tree cut.whole cut.id_is
    (subst (λ (i : ElemId). IsNew i cut.front) cut.id_is (not_before e.id cut.front (e ∷ cut.behind) distinct (inl refl)))
    (subst (λ (i : ElemId). IsNew i cut.behind) cut.id_is (back_distinct cut.front (e ∷ cut.behind) distinct).0) in
    subst (λ (xs : List Element). Grows (walk tree) xs (walk (without id tree))) (sym cut.whole)
    (subst (Grows (walk tree) (cut.front ++ e ∷ cut.behind)) (sym to.walks)
    (grows_behind (walk tree) cut.front (e ∷ cut.behind) (dead e ∷ cut.behind)
    (inl (record { id = refl; ch = refl; gone = λ gone. refl }, grows_itself (walk tree) cut.behind))))

-- ---- operations

well_op : (op : TextOp) (tree : Tree) (known : Known) → IsWell tree known → MayFollow op known → IsWell (after_op op tree) (known_after op known)
well_op (Insert first parent text) tree known well may = well_run text first parent tree known well may
well_op (Delete first count) tree known well may = well_without_run count first tree known well may.there

pub well_ops : (ops : List TextOp) (tree : Tree) (known : Known) → IsWell tree known → AllMayFollow ops known
    → IsWell (after_ops ops tree) (all_known_after ops known)
well_ops [] tree known well may = well
well_ops (op ∷ ops) tree known well may =
    well_ops ops (after_op op tree) (known_after op known) (well_op op tree known well may.0) may.1

-- ---- the elements grow

grows_on : (one two three : List Element) → Grows one one two → Grows two two three → Grows one one three
grows_on one two three first then = grows_trans one two one two three (λ id new. new_before id one one two first new) first then

grows_run : (text : List ℕ) (first : ElemId) (parent : Option ElemId) (tree : Tree) (known : Known) → IsWell tree known
    → MayInsert first parent (length text) known → Grows (walk tree) (walk tree) (walk (with_run first parent text tree))
grows_run [] first parent tree known well may = grows_itself (walk tree) (walk tree)
grows_run (ch ∷ text) first parent tree known well may =
    let new : Element = record { id = first; ch = ch; alive = true } in
    let more : Known = λ id. same first id || known id in
    let fits = may.fits in
    grows_on (walk tree) (walk (with_element parent new tree)) (walk (with_run (next_id first) (Some first) text (with_element parent new tree)))
    (grows_with parent new tree known well may.below may.fresh.0)
    (grows_run text (next_id first) (Some first) (with_element parent new tree) more
    (well_with parent new tree known well may.below may.fresh.0)
    (record {
      below = (ap (λ (b : Bool). b || known first) (same_self first), less_next first);
      fresh = run_past first (next_id first) (length text) known (less_next first) may.fresh.1;
      fits = omega (arith, fits);
    }))

grows_without_run : (count : ℕ) (first : ElemId) (tree : Tree) (known : Known) → IsWell tree known → IsRunKnown true first count known
    → Grows (walk tree) (walk tree) (walk (without_run first count tree))
grows_without_run zero first tree known well run = grows_itself (walk tree) (walk tree)
grows_without_run (suc count) first tree known well run =
    grows_on (walk tree) (walk (without first tree)) (walk (without_run (next_id first) count (without first tree)))
    (grows_without first tree known well run.0)
    (grows_without_run count (next_id first) (without first tree) known (well_without first tree known well run.0) run.1)

grows_op : (op : TextOp) (tree : Tree) (known : Known) → IsWell tree known → MayFollow op known → Grows (walk tree) (walk tree) (walk (after_op op tree))
grows_op (Insert first parent text) tree known well may = grows_run text first parent tree known well may
grows_op (Delete first count) tree known well may = grows_without_run count first tree known well may.there

-- possible operations leave the elements in their order, with others between
pub grows_ops : (ops : List TextOp) (tree : Tree) (known : Known) → IsWell tree known → AllMayFollow ops known
    → Grows (walk tree) (walk tree) (walk (after_ops ops tree))
grows_ops [] tree known well may = grows_itself (walk tree) (walk tree)
grows_ops (op ∷ ops) tree known well may =
    grows_on (walk tree) (walk (after_op op tree)) (walk (after_ops ops (after_op op tree))) (grows_op op tree known well may.0)
    (grows_ops ops (after_op op tree) (known_after op known) (well_op op tree known well may.0) may.1)

-- the tree with no elements
pub well_leaf : IsWell Leaf (is_known [])
well_leaf = record { is_tree = tt; distinct = tt; known_is = refl }
