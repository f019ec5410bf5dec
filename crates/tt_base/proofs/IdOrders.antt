-- The orders of names, actors and ids are total, and two that tie are one.
use Rattle.std.proofs.Common.{◌≡◌, ◌↔◌, true, refl, ap, subst}
use Rattle.std.specs.Prelude.{IsTrue}
use Rattle.std.specs.declared.cmp.Ordering.{Ordering}
use Rattle.std.specs.declared.cmp.Ordering.TheVariants.{Less, Equal, Greater}
use Rattle.std.specs.Ordering.{nat_cmp, is_eq, ordering_then}
use Rattle.std.specs.Cmp.{IsTotalOrder, Equal-is}
use Rattle.std.proofs.lemmas.Cmp.{nat_cmp_total, nat_list_cmp_total, on_total, then_total, tied_itself}
use Rattle.std.proofs.lemmas.Map.Lookups.{exact_bytes, exact_unsigned}
use Rattle.tt_base.specs.Ids.{name_cmp, actor_cmp, id_cmp}
use Rattle.tt_base.specs.declared.ids.Name.{Name}
use Rattle.tt_base.specs.declared.ids.Actor.{Actor}
use Rattle.tt_base.specs.declared.ids.ElemId.{ElemId}

pub name_cmp_total : IsTotalOrder name_cmp
name_cmp_total = on_total (λ (n : Name). n.0) nat_list_cmp_total

pub actor_cmp_total : IsTotalOrder actor_cmp
actor_cmp_total = on_total (λ (a : Actor). a.0) nat_list_cmp_total

pub id_cmp_total : IsTotalOrder id_cmp
id_cmp_total =
    then_total (on_total (λ (i : ElemId). i.depth) nat_cmp_total)
    (then_total (on_total (λ (i : ElemId). i.actor) actor_cmp_total)
    (then_total (on_total (λ (i : ElemId). i.name) name_cmp_total) (on_total (λ (i : ElemId). i.index) nat_cmp_total)))

-- names that tie are one name
pub name_tied : (a b : Name) → name_cmp a b ≡ Equal → a ≡ b
name_tied a b e = ap (λ bytes. record { 0 = bytes }) (exact_bytes a.0 b.0 e)

-- actors that tie are one actor
pub actor_tied : (a b : Actor) → actor_cmp a b ≡ Equal → a ≡ b
actor_tied a b e = ap (λ bytes. record { 0 = bytes }) (exact_bytes a.0 b.0 e)

-- two comparisons in turn tie where each does
then_tied : (r s : Ordering) → ordering_then r s ≡ Equal → (r ≡ Equal) × (s ≡ Equal)
then_tied Less s e = cc
then_tied Equal s e = (refl, e)
then_tied Greater s e = cc

-- ids that tie are one id
pub id_tied : (a b : ElemId) → id_cmp a b ≡ Equal → a ≡ b
id_tied a b e =
    let by_depth = then_tied (nat_cmp a.depth b.depth) _ e in
    let by_actor = then_tied (actor_cmp a.actor b.actor) _ by_depth.1 in
    let by_name = then_tied (name_cmp a.name b.name) (nat_cmp a.index b.index) by_actor.1 in
    let depth : a.depth ≡ b.depth = exact_unsigned _ _ by_depth.0 in
    let actor : a.actor ≡ b.actor = actor_tied _ _ by_actor.0 in
    let name : a.name ≡ b.name = name_tied _ _ by_name.0 in
    let index : a.index ≡ b.index = exact_unsigned _ _ by_name.1 in
    λ i. record { depth = depth i; actor = actor i; name = name i; index = index i }

-- the order tells whether two ids are one
pub id_decided : (a b : ElemId) → IsTrue (is_eq (id_cmp a b)) ↔ (a ≡ b)
id_decided a b = (
  λ e. id_tied a b ((Equal-is (id_cmp a b)).0 e),
  λ e. subst (λ c. is_eq (id_cmp a c) ≡ true) e (ap is_eq (tied_itself id_cmp_total a)),
)
