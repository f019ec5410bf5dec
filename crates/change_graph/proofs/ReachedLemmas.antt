-- What is reached in a history.
use Rattle.std.proofs.Common.{◌≡◌, ◌⊎◌, inl, inr, ℕ, ◌<◌, ◌≤◌, Bool, true, false, refl, sym, ap, subst, List, [], ◌∷◌, map, Option, Some, None, arith}
use Rattle.std.proofs.lemmas.Bool.{cases_Bool, or_cases}
use Rattle.tt_base.specs.declared.ids.Name.{Name}
use Rattle.change_codec.specs.Change.{Change}
use Rattle.change_graph.specs.History.{History, is_name, has_name, change_at, is_held, deps_of, deps_at}
use Rattle.change_graph.specs.Closure.{IsReached, Start, Step}
use Rattle.change_graph.specs.Depths.{greatest, IsDepths}
use Rattle.change_graph.specs.Histories.{IsClosed}
use Rattle.change_graph.proofs.OrderLemmas.{name_same}

-- what is reached is held
pub reached_held : {history : History} → IsClosed history → (from : Name → Bool) → {name : Name} → IsReached history from name
    → is_held history name ≡ true
reached_held closed from (Start name passes held) = held
reached_held closed from (Step above below reached dep) = closed.held above below dep

-- what is reached from names of which each is reached from others, is reached from these
pub reached_again : {history : History} → (from to : Name → Bool)
    → ((name : Name) → from name ≡ true → is_held history name ≡ true → IsReached history to name)
    → {name : Name} → IsReached history from name → IsReached history to name
reached_again from to each (Start name passes held) = each name passes held
reached_again from to each (Step above below reached dep) = Step above below (reached_again from to each reached) dep

-- in the place of one name, its dependencies
pub reached_past : {history : History} → IsClosed history → (from to : Name → Bool) → (top : Name)
    → ((name : Name) → from name ≡ true → is_name top name ≡ false → to name ≡ true)
    → ((name : Name) → has_name (deps_at history top) name ≡ true → to name ≡ true)
    → {name : Name} → IsReached history from name → (top ≡ name) ⊎ IsReached history to name
reached_past closed from to top rest deps (Start name passes held) =
    elim (cases_Bool (is_name top name)) [
      | inl same ↦ inl (name_same top name same)
      | inr apart ↦ inr (Start name (rest name passes apart) held)
    ]
reached_past {history = h} closed from to top rest deps (Step above below reached dep) =
    elim (reached_past closed from to top rest deps reached) [
      | inl is ↦
          let own : has_name (deps_at h top) below ≡ true = subst (λ (n : Name). has_name (deps_at h n) below ≡ true) (sym is) dep in
          inr (Start below (deps below own) (closed.held top below own))
      | inr again ↦ inr (Step above below again dep)
    ]

-- nothing is reached from no names
pub reached_none : {history : History} → (from : Name → Bool) → ((name : Name) → from name ≡ true → ⊥) → {name : Name}
    → IsReached history from name → ⊥
reached_none from none (Start name passes held) = none name passes
reached_none from none (Step above below reached dep) = reached_none from none reached

-- ---- depths

pub le_greatest : (depth : Name → ℕ) (names : List Name) (name : Name) → has_name names name ≡ true → depth name ≤ greatest (map depth names)
le_greatest depth [] name has = cc
le_greatest depth (x ∷ xs) name has =
    elim (or_cases (is_name name x) (has_name xs name) has) [
      | inl same ↦ let e : depth name ≡ depth x = ap depth (name_same name x same) in omega (arith, e)
      | inr rest ↦ let le : depth name ≤ greatest (map depth xs) = le_greatest depth xs name rest in omega (arith, le)
    ]

dep_depth_at : (history : History) (depth : Name → ℕ) → IsDepths history depth → (above below : Name) (o : Option Change)
    → change_at history above ≡ o → has_name (deps_of o) below ≡ true → depth below < depth above
dep_depth_at history depth are above below None is dep = cc
dep_depth_at history depth are above below (Some change) is dep =
    let e = are.each above change is in
    let le : depth below ≤ greatest (map depth change.deps) = le_greatest depth change.deps below dep in
    omega (arith, e, le)

-- a dependency has a lesser depth
pub dep_depth : (history : History) (depth : Name → ℕ) → IsDepths history depth → (above below : Name)
    → has_name (deps_at history above) below ≡ true → depth below < depth above
dep_depth history depth are above below dep = dep_depth_at history depth are above below (change_at history above) refl dep
