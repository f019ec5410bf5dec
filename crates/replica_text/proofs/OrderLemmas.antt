-- The order of ids: all that other proofs need of it.
use Rattle.std.proofs.Common.{◌≡◌, ◌==◌, suc, Bool, true, false, cond, refl, sym, ap, ◌∙◌, subst, arith, inl, inr, lt-ltb}
use Rattle.std.specs.declared.cmp.Ordering.{Ordering}
use Rattle.std.specs.declared.cmp.Ordering.TheVariants.{Less, Equal, Greater}
use Rattle.std.specs.Ordering.{nat_cmp, is_lt, is_eq, ordering_then, ordering_reverse}
use Rattle.std.specs.Cmp.{Equal-is}
use Rattle.std.proofs.lemmas.Bool.{cases_Bool}
use Rattle.std.proofs.lemmas.Cmp.{tied_itself, nat_cmp_total}
use Rattle.tt_base.specs.Ids.{actor_cmp, name_cmp, id_cmp}
use Rattle.tt_base.specs.declared.ids.ElemId.{ElemId}
use Rattle.tt_base.proofs.IdOrders.{actor_cmp_total, name_cmp_total, id_cmp_total, id_tied}
use Rattle.replica_text.specs.Ids.{less, same, next_id}

pub less_is : (a b : ElemId) → less a b ≡ is_lt (id_cmp a b)
unfolding less
less_is a b = refl

pub same_is : (a b : ElemId) → same a b ≡ is_eq (id_cmp a b)
unfolding same
same_is a b = refl

is_less : (r : Ordering) → is_lt r ≡ true → r ≡ Less
is_less Less e = refl
is_less Equal e = cc
is_less Greater e = cc

pub itself_not_less : (a : ElemId) → less a a ≡ false
itself_not_less a = less_is a a ∙ ap is_lt (tied_itself id_cmp_total a)

pub less_trans : (a b c : ElemId) → less a b ≡ true → less b c ≡ true → less a c ≡ true
less_trans a b c h k =
    less_is a c
    ∙ ap is_lt (id_cmp_total.trans a b c (is_less (id_cmp a b) (sym (less_is a b) ∙ h)) (is_less (id_cmp b c) (sym (less_is b c) ∙ k)))

pub same_one : (a b : ElemId) → same a b ≡ true → a ≡ b
same_one a b h = id_tied a b ((Equal-is (id_cmp a b)).0 (sym (same_is a b) ∙ h))

pub same_self : (a : ElemId) → same a a ≡ true
same_self a = same_is a a ∙ ap is_eq (tied_itself id_cmp_total a)

-- ids that are not one
pub other_same : (a b : ElemId) → (a ≡ b → ⊥) → same a b ≡ false
other_same a b n = elim (cases_Bool (same a b)) [ inl e ↦ absurd (n (same_one a b e)) | inr e ↦ e ]

pub never : {G : Type 0} (b : Bool) → b ≡ true → b ≡ false → G
never b h k = let no : true ≡ false = sym h ∙ k in cc

pub less_other : (a b : ElemId) → less a b ≡ true → a ≡ b → ⊥
less_other a b h e = never (less a b) h (subst (λ (c : ElemId). less a c ≡ false) e (itself_not_less a))

pub not_back : (a b : ElemId) → less a b ≡ true → less b a ≡ false
not_back a b h = elim (cases_Bool (less b a)) [
  | inl e ↦ never (less a a) (less_trans a b a h e) (itself_not_less a)
  | inr e ↦ e
]

turned : (r s : Ordering) → s ≡ ordering_reverse r → is_lt r ≡ false → is_eq r ≡ false → is_lt s ≡ true
turned Less s e h k = cc
turned Equal s e h k = cc
turned Greater s e h k = ap is_lt e

pub greater_other : (a b : ElemId) → less a b ≡ false → same a b ≡ false → less b a ≡ true
greater_other a b h k =
    less_is b a
    ∙ turned (id_cmp a b) (id_cmp b a) (id_cmp_total.antisymm b a) (sym (less_is a b) ∙ h) (sym (same_is a b) ∙ k)

pub less_next : (id : ElemId) → less id (next_id id) ≡ true
less_next id =
    less_is id (next_id id)
    ∙ ap (λ r. is_lt (ordering_then r (ordering_then (actor_cmp id.actor id.actor) (ordering_then (name_cmp id.name id.name) (nat_cmp id.index (suc id.index))))))
    (tied_itself nat_cmp_total id.depth)
    ∙ ap (λ r. is_lt (ordering_then r (ordering_then (name_cmp id.name id.name) (nat_cmp id.index (suc id.index))))) (tied_itself actor_cmp_total id.actor)
    ∙ ap (λ r. is_lt (ordering_then r (nat_cmp id.index (suc id.index)))) (tied_itself name_cmp_total id.name)
    ∙ ap (λ b. is_lt (cond b Less (cond (id.index == suc id.index) Equal Greater))) (lt-ltb id.index (suc id.index) (omega arith))
