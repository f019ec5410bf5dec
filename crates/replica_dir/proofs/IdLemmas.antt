-- Ids and paths that tie are one.
use Rattle.std.proofs.Common.{◌≡◌, ℕ, true, List}
use Rattle.std.specs.declared.cmp.Ordering.{Ordering}
use Rattle.std.specs.declared.cmp.Ordering.TheVariants.{Less, Equal, Greater}
use Rattle.std.specs.Ordering.{nat_cmp, is_eq, ordering_then}
use Rattle.std.specs.Cmp.Lexicographic.{slice_cmp}
use Rattle.std.proofs.Common.{refl}
use Rattle.std.proofs.lemmas.Map.Lookups.{exact_bytes, exact_unsigned}
use Rattle.tt_base.specs.Ids.{name_cmp, actor_cmp, id_cmp}
use Rattle.tt_base.specs.declared.ids.ElemId.{ElemId}
use Rattle.tt_base.proofs.IdOrders.{name_tied, actor_tied}
use Rattle.replica_dir.specs.Ids.{is_id, is_path}

-- two comparisons in turn tie where each does
then_tied : (r s : Ordering) → ordering_then r s ≡ Equal → (r ≡ Equal) × (s ≡ Equal)
then_tied Less s e = cc
then_tied Equal s e = (refl, e)
then_tied Greater s e = cc

is_tied : (r : Ordering) → is_eq r ≡ true → r ≡ Equal
is_tied Less e = cc
is_tied Equal e = refl
is_tied Greater e = cc

pub id_tied : (a b : ElemId) → id_cmp a b ≡ Equal → a ≡ b
id_tied a b e =
    let by_depth = then_tied (nat_cmp a.depth b.depth) _ e in
    let by_actor = then_tied (actor_cmp a.actor b.actor) _ by_depth.1 in
    let by_name = then_tied (name_cmp a.name b.name) (nat_cmp a.index b.index) by_actor.1 in
    let depth : a.depth ≡ b.depth = exact_unsigned _ _ by_depth.0 in
    let actor : a.actor ≡ b.actor = actor_tied _ _ by_actor.0 in
    let name : a.name ≡ b.name = name_tied _ _ by_name.0 in
    let index : a.index ≡ b.index = exact_unsigned _ _ by_name.1 in
    λ i. record { depth = depth i; actor = actor i; name = name i; index = index i }

pub id_same : (a b : ElemId) → is_id a b ≡ true → a ≡ b
id_same a b e = id_tied a b (is_tied (id_cmp a b) e)

pub path_same : (a b : List ℕ) → is_path a b ≡ true → a ≡ b
path_same a b e = exact_bytes a b (is_tied (slice_cmp nat_cmp a b) e)
