-- A character of the next depth may be typed behind any that was typed before.
use Rattle.std.proofs.Common.{◌≡◌, ◌==◌, ◌⊎◌, ℕ, ◌+◌, ◌<◌, Bool, true, false, cond, ◌||◌, [], ◌∷◌, Option, Some, None, refl, ap, ◌∙◌, inl, inr, arith, lt-ltb}
use Rattle.std.specs.declared.cmp.Ordering.TheVariants.{Less, Equal, Greater}
use Rattle.std.specs.Ordering.{nat_cmp, is_lt, ordering_then}
use Rattle.std.proofs.lemmas.Bool.{cases_Bool, eqb-true, eqb-false}
use Rattle.tt_base.specs.Ids.{actor_cmp, name_cmp}
use Rattle.tt_base.specs.declared.ids.ElemId.{ElemId}
use Rattle.tt_base.specs.declared.text_ops.TextOp.TheVariants.{Insert}
use Rattle.replica_text.specs.Ids.{less, same}
use Rattle.replica_text.specs.Ops.{MayBeParent, AllMayFollow, all_known_after}
use Rattle.replica_text.proofs.OrderLemmas.{same_one, same_self}
use Rattle.tree_bench.specs.Typed.{at_depth, parent_at, AreTyped, IsTypedBefore}

-- a smaller depth makes a smaller id
less_deep : (id : ElemId) (depth next : ℕ) → depth < next → less (at_depth id depth) (at_depth id next) ≡ true
unfolding less
less_deep id depth next h =
    ap (λ b. is_lt (ordering_then (cond b Less (cond (depth == next) Equal Greater))
    (ordering_then (actor_cmp id.actor id.actor) (ordering_then (name_cmp id.name id.name) (nat_cmp id.index id.index)))))
    (lt-ltb depth next h)

fresh : (id : ElemId) (count : ℕ) (known : ElemId → Bool) → AreTyped id count known → known (at_depth id (count + 1)) ≡ false
fresh id count known t = elim (cases_Bool (known (at_depth id (count + 1)))) [
  | inl e ↦ absurd (omega (arith, t.no_more (at_depth id (count + 1)) e))
  | inr e ↦ e
]

may_be_parent : (id : ElemId) (count : ℕ) (parent : Option ℕ) (known : ElemId → Bool) → AreTyped id count known → IsTypedBefore parent count
    → MayBeParent (parent_at id parent) (at_depth id (count + 1)) known
may_be_parent id count None known t p = tt
may_be_parent id count (Some depth) known t p = (t.there depth p.0 p.1, less_deep id depth (count + 1) (omega (arith, p.1)))

pub may_be_typed : (id : ElemId) (count ch : ℕ) (parent : Option ℕ) (known : ElemId → Bool) → AreTyped id count known → IsTypedBefore parent count
    → id.index ≡ 0 → AllMayFollow (Insert (at_depth id (count + 1)) (parent_at id parent) (ch ∷ []) ∷ []) known
may_be_typed id count ch parent known t p index = (
  record { below = may_be_parent id count parent known t p; fresh = (fresh id count known t, tt); fits = omega (arith, index) },
  tt,
)

or_false : (a b : Bool) → (a || b) ≡ true → (a ≡ true) ⊎ (b ≡ true)
or_false true b h = inl refl
or_false false b h = inr h

or_right : (a b : Bool) → b ≡ true → (a || b) ≡ true
or_right true b h = refl
or_right false b h = h

pub one_more_typed : (id : ElemId) (count ch : ℕ) (parent : Option ElemId) (known : ElemId → Bool) → AreTyped id count known
    → AreTyped id (count + 1) (all_known_after (Insert (at_depth id (count + 1)) parent (ch ∷ []) ∷ []) known)
one_more_typed id count ch parent known t =
    let new : ElemId = at_depth id (count + 1) in
    record {
      there = λ depth from to. elim (cases_Bool (depth == count + 1)) [
        | inl e ↦ ap (λ b. (b || false) || known (at_depth id depth)) (ap (λ n. same new (at_depth id n)) (eqb-true depth (count + 1) e) ∙ same_self new)
        | inr e ↦ or_right (same new (at_depth id depth) || false) (known (at_depth id depth)) (t.there depth from (omega (arith, to, eqb-false depth (count + 1) e)))
      ];
      no_more = λ other is. elim (or_false (same new other || false) (known other) is) [
        | inl e ↦ elim (or_false (same new other) false e) [
          | inl s ↦ omega (arith, ap (λ (x : ElemId). x.depth) (same_one new other s))
          | inr s ↦ cc
        ]
        | inr e ↦ omega (arith, t.no_more other e)
      ];
    }
