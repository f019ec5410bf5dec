-- The heads of a history, and the depth of a change that knows them.
use Rattle.std.proofs.Common.{◌≡◌, ◌⊎◌, inl, inr, ◌<◌, ◌≤◌, Bool, true, false, cond, not, ◌||◌, ◌&&◌, refl, sym, ap, ap₂, ◌∙◌, List, [], ◌∷◌, map, filter, Option, Some, None, is_some, arith}
use Rattle.std.specs.declared.cmp.Ordering.TheVariants.{Less}
use Rattle.std.specs.List.{list_any, AllByRecursion}
use Rattle.std.specs.List.Sorted.{IsStrictlySortedBy}
use Rattle.std.specs.Map.{keys_of}
use Rattle.tt_base.specs.Ids.{name_cmp}
use Rattle.tt_base.specs.declared.ids.Name.{Name}
use Rattle.change_codec.specs.Change.{Change}
use Rattle.change_graph.specs.History.{History, is_name, has_name, change_at, is_held, deps_of, deps_at}
use Rattle.change_graph.specs.Answers.{AreHeads, IsHeads}
use Rattle.change_graph.specs.Closure.{IsReached, Start, Step}
use Rattle.change_graph.specs.Depths.{greatest}
use Rattle.change_graph.proofs.OrderLemmas.{name_same}
use Rattle.change_graph.proofs.ReachedLemmas.{le_greatest, dep_depth}
use Rattle.change_graph.proofs.HeadLemmas.{behind_heads}
use Rattle.replica_views.specs.Ids.{depth_at, depth_above}
use Rattle.replica_views.specs.Made.{is_dep, heads_of}
use Rattle.replica_views.specs.Growth.{IsGrown}
use Rattle.replica_views.proofs.DepthLemmas.{HasDepths, grown_depths, are_depths}
use Rattle.replica_views.proofs.HistoryLemmas.{grown_history}
use Rattle.replica_views.proofs.StayLemmas.{IsEntry, grown_entries, all_filter}
use Rattle.replica_views.proofs.StepLemmas.{IsIn, found_in}

-- ---- names of a history

key_cases : (b : Bool) (c : Change) (o : Option Change) (has : Bool) → has ≡ is_some o → (b || has) ≡ is_some (cond b (Some c) o)
key_cases true c o has is = refl
key_cases false c o has is = is

has_key : (es : History) (n : Name) → has_name (keys_of es) n ≡ is_held es n
has_key [] n = refl
has_key (e ∷ es) n = key_cases (is_name n e.0) e.1 (change_at es n) (has_name (keys_of es) n) (has_key es n)

has_filter : (test : Name → Bool) (ks : List Name) (n : Name) → has_name (filter test ks) n ≡ (test n && has_name ks n)
has_filter test [] n = none (test n) where
  none : (b : Bool) → false ≡ (b && false)
  none true = refl
  none false = refl
has_filter test (k ∷ ks) n = by (has_filter test ks n) (test k) refl (is_name n k) refl where
  here : (c : Bool) → (c && true) ≡ c
  here true = refl
  here false = refl

  by : has_name (filter test ks) n ≡ (test n && has_name ks n) → (t : Bool) → test k ≡ t → (b : Bool) → is_name n k ≡ b
      → has_name (cond t (k ∷ filter test ks) (filter test ks)) n ≡ (test n && (b || has_name ks n))
  by rest true passes true same =
      ap (λ (b : Bool). b || has_name (filter test ks) n) same
      ∙ sym (ap test (name_same n k same) ∙ passes) ∙ sym (here (test n))
  by rest true passes false apart = ap (λ (b : Bool). b || has_name (filter test ks) n) apart ∙ rest
  by rest false fails true same =
      rest ∙ ap (λ (b : Bool). b && has_name ks n) (ap test (name_same n k same) ∙ fails)
      ∙ sym (ap (λ (b : Bool). b && true) (ap test (name_same n k same) ∙ fails))
  by rest false fails false apart = rest

pub any_false : {X : Type 0} (p : X → Bool) (x : X) (xs : List X) → IsIn x xs → list_any p xs ≡ false → p x ≡ false
any_false p x [] is none = absurd is
any_false p x (y ∷ ys) is none = by (λ rest no. any_false p x ys rest no) (p y) refl is none where
  by : (IsIn x ys → list_any p ys ≡ false → p x ≡ false) → (b : Bool) → p y ≡ b → (y ≡ x) ⊎ IsIn x ys → (b || list_any p ys) ≡ false → p x ≡ false
  by later true here is none = cc
  by later false here (inl same) none = sym (ap p same) ∙ here
  by later false here (inr rest) none = later rest none

pub all_none : {X : Type 0} (p : X → Bool) (xs : List X) → AllByRecursion (λ x. p x ≡ false) xs → list_any p xs ≡ false
all_none p [] all = refl
all_none p (x ∷ xs) all = ap₂ (λ (a b : Bool). a || b) all.0 (all_none p xs all.1)

-- ---- heads

module _ (history : History) (grown : IsGrown history) where
  abbrev is_free : Name → Bool
  is_free n = not (is_dep history n)

  and_parts : (a b : Bool) → (a && b) ≡ true → (a ≡ true) × (b ≡ true)
  and_parts true b is = (refl, is)
  and_parts false b is = cc

  and_both : (a b : Bool) → a ≡ true → b ≡ true → (a && b) ≡ true
  and_both true b one other = other
  and_both false b one other = cc

  head_is : (n : Name) → has_name (heads_of history) n ≡ (is_free n && is_held history n)
  unfolding heads_of
  head_is n = has_filter is_free (keys_of history) n ∙ ap (λ (b : Bool). is_free n && b) (has_key history n)

  unnamed_at : (n above : Name) (o : Option Change) → change_at history above ≡ o → is_dep history n ≡ false → has_name (deps_of o) n ≡ false
  unnamed_at n above None found none = refl
  unnamed_at n above (Some c) found none =
      any_false (λ (held : Name × Change). has_name held.1.deps n) (above, c) history (found_in history above c found) none

  none_named : (n : Name) → ((above : Name) → has_name (deps_at history above) n ≡ false) → (es : History) → AllByRecursion (IsEntry history) es
      → AllByRecursion (λ (held : Name × Change). has_name held.1.deps n ≡ false) es
  none_named n each [] all = tt
  none_named n each (e ∷ es) all =
      (sym (ap (λ (o : Option Change). has_name (deps_of o) n) all.0.found) ∙ each e.0, none_named n each es all.1)

  pub are_heads : AreHeads history (heads_of history)
  are_heads = record {
    held = λ n has. (and_parts (is_free n) (is_held history n) (sym (head_is n) ∙ has)).1;
    unnamed = λ n has above.
        unnamed_at n above (change_at history above) refl
        (sym (not-involved (is_dep history n) (and_parts (is_free n) (is_held history n) (sym (head_is n) ∙ has)).0));
    all = λ n held each.
        head_is n
        ∙ and_both (is_free n) (is_held history n)
        (ap not (all_none (λ (e : Name × Change). has_name e.1.deps n) history (none_named n each history (grown_entries history grown)))) held;
  } where
    not-involved : (b : Bool) → not b ≡ true → false ≡ b
    not-involved true is = cc
    not-involved false is = refl

  sorted_filter : (test : Name → Bool) (ks : List Name) → IsStrictlySortedBy name_cmp ks → IsStrictlySortedBy name_cmp (filter test ks)
  unfolding IsStrictlySortedBy
  sorted_filter test [] sorted = tt
  sorted_filter test (k ∷ ks) sorted = by (sorted_filter test ks sorted.1) (test k) where
    by : IsStrictlySortedBy name_cmp (filter test ks) → (b : Bool) → IsStrictlySortedBy name_cmp (cond b (k ∷ filter test ks) (filter test ks))
    by rest true = (all_filter (λ (n : Name). name_cmp k n ≡ Less) test ks sorted.0, rest)
    by rest false = rest

  -- they are the heads, each once, rising
  pub is_heads : IsHeads history (heads_of history)
  unfolding heads_of
  is_heads = record { are_heads = are_heads; rising = sorted_filter is_free (keys_of history) (grown_history history grown).rising }

  reached_few : {n : Name} → IsReached history (has_name (heads_of history)) n → depth_at history n ≤ greatest (map (depth_at history) (heads_of history))
  reached_few (Start n head held) = le_greatest (depth_at history) (heads_of history) n head
  reached_few (Step above below reached dep) =
      let up : depth_at history above ≤ greatest (map (depth_at history) (heads_of history)) = reached_few reached in
      let down : depth_at history below < depth_at history above = dep_depth history (depth_at history) (are_depths history grown) above below dep in
      omega (arith, up, down)

  -- what is held is less deep than a change that knows the heads
  pub less_deep : (n : Name) → is_held history n ≡ true → depth_at history n < depth_above history (heads_of history)
  less_deep n held =
      let has : HasDepths history = grown_depths history grown in
      let few : depth_at history n ≤ greatest (map (depth_at history) (heads_of history)) =
      reached_few (behind_heads (record { history = history; depths = has.depths }) has.deep (heads_of history) are_heads n held) in
      omega (arith, few)

  -- a change that knows the heads is not held itself
  pub own_is_new : (name : Name) (change : Change) → change.deps ≡ heads_of history → change_at history name ≡ Some change → ⊥
  own_is_new name change knows found =
      let held : is_held history name ≡ true = ap (λ (o : Option Change). is_some o) found in
      let deep : depth_at history name ≡ depth_above history change.deps = (are_depths history grown).each name change found in
      let at : depth_above history change.deps ≡ depth_above history (heads_of history) = ap (depth_above history) knows in
      let less : depth_at history name < depth_above history (heads_of history) = less_deep name held in
      absurd (omega (arith, deep, at, less))
