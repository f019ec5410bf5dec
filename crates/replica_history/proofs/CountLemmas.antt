-- The changes of each daemon are counted as they come.
use Rattle.std.proofs.Common.{◌≡◌, ℕ, ◌+◌, Bool, true, false, cond, refl, sym, ap, ◌∙◌, [], ◌∷◌, Option, Some, None, is_some, arith}
use Rattle.std.specs.declared.cmp.Ordering.{Ordering}
use Rattle.std.specs.declared.cmp.Ordering.TheVariants.{Less, Equal, Greater}
use Rattle.std.specs.Ordering.{is_eq, ordering_reverse, match_ordering}
use Rattle.std.specs.BTreeMap.{is_at, insert_entry}
use Rattle.std.specs.List.{count_by}
use Rattle.std.proofs.lemmas.List.Sums.{sum_by-cons}
use Rattle.std.specs.Map.{lookup}
use Rattle.std.specs.Option.{unwrap_or}
use Rattle.tt_base.specs.Ids.{actor_cmp, name_cmp}
use Rattle.tt_base.specs.declared.ids.Actor.{Actor}
use Rattle.tt_base.specs.declared.ids.Name.{Name}
use Rattle.tt_base.proofs.IdOrders.{actor_cmp_total, actor_tied}
use Rattle.change_codec.specs.Change.{Change}
use Rattle.change_graph.specs.History.{History, change_at, is_held, is_name, name_of, with_change}
use Rattle.replica_views.specs.Made.{is_made_by}
use Rattle.replica_history.specs.Counts.{CountsView, count_at, AreCounts}

-- ---- an actor more

is_tied : (r : Ordering) → is_eq r ≡ true → r ≡ Equal
is_tied Less e = cc
is_tied Equal e = refl
is_tied Greater e = cc

pub counted : (old new : CountsView) (actor : Actor) (count : ℕ) → count ≡ count_at old actor + 1
    → ((q : Actor) → lookup (is_at (actor_cmp q)) new ≡ cond (is_at (actor_cmp actor) q) (Some count) (lookup (is_at (actor_cmp q)) old))
    → (q : Actor) → count_at new q ≡ cond (is_at (actor_cmp actor) q) (count_at old q + 1) (count_at old q)
counted old new actor count is updates q = by (is_at (actor_cmp actor) q) refl where
  by : (b : Bool) → is_at (actor_cmp actor) q ≡ b → count_at new q ≡ cond b (count_at old q + 1) (count_at old q)
  by true here =
      ap (λ (o : Option ℕ). unwrap_or o 0)
      (updates q ∙ ap (λ (b : Bool). cond b (Some count) (lookup (is_at (actor_cmp q)) old)) here)
      ∙ is
      ∙ ap (λ (a : Actor). count_at old a + 1) (actor_tied actor q (is_tied (actor_cmp actor q) here))
  by false apart =
      ap (λ (o : Option ℕ). unwrap_or o 0)
      (updates q ∙ ap (λ (b : Bool). cond b (Some count) (lookup (is_at (actor_cmp q)) old)) apart)

-- ---- a change more

module _ (p : Name × Change → Bool) (name : Name) (change : Change) where
  one_more : (history : History) → lookup (is_name name) history ≡ None
      → count_by p (insert_entry name_cmp history name change) ≡ cond (p (name, change)) 1 0 + count_by p history
  one_more [] new = sum_by-cons (λ (held : Name × Change). cond (p held) 1 0) (name, change) []
  one_more (e ∷ es) new = by (λ rest. one_more es rest) (name_cmp name e.0) refl new where
    by : (lookup (is_name name) es ≡ None → count_by p (insert_entry name_cmp es name change) ≡ cond (p (name, change)) 1 0 + count_by p es)
        → (r : Ordering) → name_cmp name e.0 ≡ r → cond (is_eq r) (Some e.1) (lookup (is_name name) es) ≡ None
        → count_by p (match_ordering r ((name, change) ∷ e ∷ es) ((e.0, change) ∷ es) (e ∷ insert_entry name_cmp es name change))
        ≡ cond (p (name, change)) 1 0 + count_by p (e ∷ es)
    by rest Less is new = sum_by-cons (λ (held : Name × Change). cond (p held) 1 0) (name, change) (e ∷ es)
    by rest Equal is new = cc
    by rest Greater is new =
        let more = rest new in
        let with_it = sum_by-cons (λ (held : Name × Change). cond (p held) 1 0) e (insert_entry name_cmp es name change) in
        let without = sum_by-cons (λ (held : Name × Change). cond (p held) 1 0) e es in
        omega (arith, more, with_it, without)

none_held : (o : Option Change) → is_some o ≡ false → o ≡ None
none_held None is = refl
none_held (Some change) is = cc

turned : (a b : Actor) → is_eq (actor_cmp a b) ≡ is_eq (actor_cmp b a)
turned a b = ap is_eq (actor_cmp_total.antisymm a b) ∙ sym (by (actor_cmp b a)) where
  by : (r : Ordering) → is_eq r ≡ is_eq (ordering_reverse r)
  by Less = refl
  by Equal = refl
  by Greater = refl

-- with a change more its daemon has one more
pub counts_more : (history : History) (change : Change) (old new : CountsView) → is_held history (name_of change) ≡ false → AreCounts history old
    → ((q : Actor) → count_at new q ≡ cond (is_at (actor_cmp change.actor) q) (count_at old q + 1) (count_at old q))
    → AreCounts (with_change history change) new
counts_more history change old new unheld counts more q =
    more q ∙ by (is_at (actor_cmp change.actor) q) refl where
      made : is_made_by q (name_of change, change) ≡ is_at (actor_cmp change.actor) q
      made = turned q change.actor

      now : count_by (is_made_by q) (with_change history change) ≡ cond (is_at (actor_cmp change.actor) q) 1 0 + count_by (is_made_by q) history
      now =
          one_more (is_made_by q) (name_of change) change history (none_held (change_at history (name_of change)) unheld)
          ∙ ap (λ (b : Bool). cond b 1 0 + count_by (is_made_by q) history) made

      by : (b : Bool) → is_at (actor_cmp change.actor) q ≡ b → cond b (count_at old q + 1) (count_at old q) ≡ count_by (is_made_by q) (with_change history change)
      by true here =
          let was = counts q in
          let is : count_by (is_made_by q) (with_change history change) ≡ 1 + count_by (is_made_by q) history =
          now ∙ ap (λ (b : Bool). cond b 1 0 + count_by (is_made_by q) history) here in
          omega (arith, was, is)
      by false apart =
          let was = counts q in
          let is : count_by (is_made_by q) (with_change history change) ≡ 0 + count_by (is_made_by q) history =
          now ∙ ap (λ (b : Bool). cond b 1 0 + count_by (is_made_by q) history) apart in
          omega (arith, was, is)

-- nothing is counted where nothing is held
pub none_counted : (history : History) (counts : CountsView) → history ≡ [] → counts ≡ [] → AreCounts history counts
none_counted history counts none no_counts q =
    ap (λ (c : CountsView). count_at c q) no_counts ∙ sym (ap (λ (h : History). count_by (is_made_by q) h) none)
