-- Ids in rising order are the same ids, each once.
use Rattle.std.proofs.Common.{◌≡◌, Bool, true, false, cond, ◌||◌, refl, sym, ap, ◌∙◌, List, [], ◌∷◌}
use Rattle.std.specs.declared.cmp.Ordering.{Ordering}
use Rattle.std.specs.declared.cmp.Ordering.TheVariants.{Less, Equal, Greater}
use Rattle.std.specs.Ordering.{is_lt}
use Rattle.std.specs.List.{AllByRecursion}
use Rattle.std.specs.List.Sorted.{IsStrictlySortedBy}
use Rattle.tt_base.specs.Ids.{id_cmp}
use Rattle.tt_base.specs.declared.ids.ElemId.{ElemId}
use Rattle.tt_base.proofs.IdOrders.{id_cmp_total}
use Rattle.replica_dir.specs.Ids.{is_id, has_id}
use Rattle.replica_dir.proofs.IdLemmas.{id_tied}
use Rattle.replica_text.specs.Ids.{less, same}
use Rattle.replica_text.proofs.OrderLemmas.{less_is, same_one, greater_other}
use Rattle.replica_views.specs.Made.{with_id, rising_ids}
use Rattle.replica_views.proofs.ToldLemmas.{all_below, same_list}

-- what holds of an id and of others holds of all of them
with_all : (P : ElemId → Type 0) (id : ElemId) (ids : List ElemId) → P id → AllByRecursion P ids → AllByRecursion P (with_id id ids)
with_all P id [] is all = (is, tt)
with_all P id (other ∷ ids) is all = by (less other id) (with_all P id ids is all.1) where
  there : (b : Bool) → AllByRecursion P (cond b (other ∷ ids) (id ∷ (other ∷ ids)))
  there true = all
  there false = (is, all)

  by : (b : Bool) → AllByRecursion P (with_id id ids)
      → AllByRecursion P (cond b (other ∷ with_id id ids) (cond (same other id) (other ∷ ids) (id ∷ (other ∷ ids))))
  by true rest = (all.0, rest)
  by false rest = there (same other id)

pub rising_all : (P : ElemId → Type 0) (ids : List ElemId) → AllByRecursion P ids → AllByRecursion P (rising_ids ids)
rising_all P [] all = tt
rising_all P (id ∷ ids) all = with_all P id (rising_ids ids) all.0 (rising_all P ids all.1)

-- ---- the same ids

swapped : (a b c : Bool) → (a || (b || c)) ≡ (b || (a || c))
swapped true true c = refl
swapped true false c = refl
swapped false b c = refl

again : (a b : Bool) → (a || b) ≡ (a || (a || b))
again true b = refl
again false b = refl

has_with : (id : ElemId) (ids : List ElemId) (q : ElemId) → has_id (with_id id ids) q ≡ (is_id q id || has_id ids q)
has_with id [] q = refl
has_with id (other ∷ ids) q = by (less other id) (has_with id ids q) where
  there : (b : Bool) → same other id ≡ b
      → has_id (cond b (other ∷ ids) (id ∷ (other ∷ ids))) q ≡ (is_id q id || (is_id q other || has_id ids q))
  there true is =
      again (is_id q other) (has_id ids q)
      ∙ ap (λ (x : ElemId). is_id q x || (is_id q other || has_id ids q)) (same_one other id is)
  there false apart = refl

  by : (b : Bool) → has_id (with_id id ids) q ≡ (is_id q id || has_id ids q)
      → has_id (cond b (other ∷ with_id id ids) (cond (same other id) (other ∷ ids) (id ∷ (other ∷ ids)))) q
      ≡ (is_id q id || (is_id q other || has_id ids q))
  by true rest = ap (λ (b : Bool). is_id q other || b) rest ∙ swapped (is_id q other) (is_id q id) (has_id ids q)
  by false rest = there (same other id) refl

pub has_rising : (ids : List ElemId) (q : ElemId) → has_id (rising_ids ids) q ≡ has_id ids q
has_rising [] q = refl
has_rising (id ∷ ids) q = has_with id (rising_ids ids) q ∙ ap (λ (b : Bool). is_id q id || b) (has_rising ids q)

-- ---- in strictly rising order

is_less : (r : Ordering) → is_lt r ≡ true → r ≡ Less
is_less Less e = refl
is_less Equal e = cc
is_less Greater e = cc

less_below : (a b : ElemId) → less a b ≡ true → id_cmp a b ≡ Less
less_below a b is = is_less (id_cmp a b) (sym (less_is a b) ∙ is)

with_rises : (id : ElemId) (ids : List ElemId) → IsStrictlySortedBy id_cmp ids → IsStrictlySortedBy id_cmp (with_id id ids)
unfolding IsStrictlySortedBy
with_rises id [] sorted = (tt, tt)
with_rises id (other ∷ ids) sorted = by (less other id) refl (λ s. with_rises id ids s) where
  there : (b : Bool) → less other id ≡ false → same other id ≡ b → IsStrictlySortedBy id_cmp (cond b (other ∷ ids) (id ∷ (other ∷ ids)))
  there true above is = sorted
  there false above apart =
      let lt : id_cmp id other ≡ Less = less_below id other (greater_other other id above apart) in
      ((lt, all_below id_cmp id_cmp_total id_tied id other ids lt sorted.0), sorted)

  by : (b : Bool) → less other id ≡ b → (IsStrictlySortedBy id_cmp ids → IsStrictlySortedBy id_cmp (with_id id ids))
      → IsStrictlySortedBy id_cmp (cond b (other ∷ with_id id ids) (cond (same other id) (other ∷ ids) (id ∷ (other ∷ ids))))
  by true below rest =
      (with_all (λ (y : ElemId). id_cmp other y ≡ Less) id ids (less_below other id below) sorted.0, rest sorted.1)
  by false above rest = there (same other id) above refl

rising_sorted : (ids : List ElemId) → IsStrictlySortedBy id_cmp (rising_ids ids)
unfolding IsStrictlySortedBy
rising_sorted [] = tt
rising_sorted (id ∷ ids) = with_rises id (rising_ids ids) (rising_sorted ids)

-- the list in strictly rising order with these ids
pub rising_is : (ids rising : List ElemId) → IsStrictlySortedBy id_cmp rising → ((q : ElemId) → has_id rising q ≡ has_id ids q)
    → rising ≡ rising_ids ids
rising_is ids rising sorted same_ids =
    same_list id_cmp id_cmp_total id_tied rising (rising_ids ids) sorted (rising_sorted ids) (λ q. same_ids q ∙ sym (has_rising ids q))
