-- A history to which changes came one by one is a history.
use Rattle.std.proofs.Common.{◌≡◌, refl, ap, ◌∙◌, List, [], ◌∷◌}
use Rattle.std.specs.declared.cmp.Ordering.{Ordering}
use Rattle.std.specs.declared.cmp.Ordering.TheVariants.{Less, Equal, Greater}
use Rattle.std.specs.Ordering.{match_ordering, ordering_reverse}
use Rattle.std.specs.List.{AllByRecursion}
use Rattle.std.specs.List.Sorted.{IsStrictlySortedBy}
use Rattle.std.specs.Map.{keys_of}
use Rattle.std.specs.BTreeMap.{insert_entry}
use Rattle.tt_base.specs.Ids.{name_cmp}
use Rattle.tt_base.specs.declared.ids.Name.{Name}
use Rattle.tt_base.proofs.IdOrders.{name_cmp_total}
use Rattle.change_graph.specs.History.{History, has_name, name_of, with_change}
use Rattle.change_graph.specs.Histories.{IsHistory}
use Rattle.change_graph.proofs.ReachedLemmas.{reached_none}
use Rattle.change_graph.proofs.GrowthLemmas.{history_grown}
use Rattle.replica_views.specs.Growth.{IsGrown, Begun, Come}
use Rattle.replica_views.proofs.DepthLemmas.{HasDepths, grown_depths, growing}

module _ {X : Type 0} (name : Name) (value : X) where
  -- what is below all keys and the new one is below all with the new one
  below_inserted : (q : Name) (es : List (Name × X)) → name_cmp q name ≡ Less → AllByRecursion (λ k. name_cmp q k ≡ Less) (keys_of es)
      → AllByRecursion (λ k. name_cmp q k ≡ Less) (keys_of (insert_entry name_cmp es name value))
  below_inserted q [] less all = (less, tt)
  below_inserted q (e ∷ es) less all = by (below_inserted q es less all.1) (name_cmp name e.0) where
    by : AllByRecursion (λ k. name_cmp q k ≡ Less) (keys_of (insert_entry name_cmp es name value)) → (r : Ordering)
        → AllByRecursion (λ k. name_cmp q k ≡ Less)
        (keys_of (match_ordering r ((name, value) ∷ e ∷ es) ((e.0, value) ∷ es) (e ∷ insert_entry name_cmp es name value)))
    by rest Less = (less, all)
    by rest Equal = all
    by rest Greater = (all.0, rest)

  below_all : (e : Name) (ks : List Name) → name_cmp name e ≡ Less → AllByRecursion (λ k. name_cmp e k ≡ Less) ks
      → AllByRecursion (λ k. name_cmp name k ≡ Less) ks
  below_all e [] less all = tt
  below_all e (k ∷ ks) less all = (name_cmp_total.trans name e k less all.0, below_all e ks less all.1)

  -- an entry keeps keys rising
  pub rising_inserted : (es : List (Name × X)) → IsStrictlySortedBy name_cmp (keys_of es)
      → IsStrictlySortedBy name_cmp (keys_of (insert_entry name_cmp es name value))
  unfolding IsStrictlySortedBy
  rising_inserted [] sorted = (tt, tt)
  rising_inserted (e ∷ es) sorted = by (rising_inserted es sorted.1) (name_cmp name e.0) refl where
    by : IsStrictlySortedBy name_cmp (keys_of (insert_entry name_cmp es name value)) → (r : Ordering) → name_cmp name e.0 ≡ r
        → IsStrictlySortedBy name_cmp
        (keys_of (match_ordering r ((name, value) ∷ e ∷ es) ((e.0, value) ∷ es) (e ∷ insert_entry name_cmp es name value)))
    by rest Less is = ((is, below_all e.0 (keys_of es) is sorted.0), sorted)
    by rest Equal is = sorted
    by rest Greater is = (below_inserted e.0 es (name_cmp_total.antisymm e.0 name ∙ ap ordering_reverse is) sorted.0, rest)

none_is_history : IsHistory []
unfolding IsStrictlySortedBy
none_is_history = record {
  named = λ name change is. cc;
  closed = record { held = λ name dep is. cc };
  rising = tt;
  acyclic = λ name reached. reached_none (has_name []) (λ q is. cc) reached;
  accepted = λ name change is. cc;
}

pub grown_history : (history : History) → IsGrown history → IsHistory history
grown_history history Begun = none_is_history
grown_history history (Come before change grown may) =
    let has : HasDepths before = grown_depths before grown in
    let is : IsHistory before = grown_history before grown in
    history_grown (record { history = before; depths = has.depths })
    (record { history = with_change before change; depths = insert_entry name_cmp has.depths (name_of change) _ }) (name_of change) change _
    (growing before change has may.next) has.deep is refl may.next.accepted
    (rising_inserted (name_of change) change before is.rising)
