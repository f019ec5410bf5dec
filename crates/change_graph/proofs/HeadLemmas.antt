-- The heads of a history.
use Rattle.std.proofs.Common.{◌≡◌, ◌⊎◌, inl, inr, ℕ, ◌+◌, ◌<◌, ◌≤◌, zero, suc, Bool, true, false, cond, not, ◌||◌, ◌&&◌, refl, sym, ap, ◌∙◌, subst, List, [], ◌∷◌, length, Option, Some, None, is_some, arith}
use Rattle.std.specs.List.{list_any}
use Rattle.std.proofs.lemmas.Bool.{cases_Bool, or_cases, or_left, or_right, and_parts, and_from, both_ways, false_from_ne_true, not_from_false, not-true}
use Rattle.tt_base.specs.declared.ids.Name.{Name}
use Rattle.change_codec.specs.Change.{Change}
use Rattle.change_graph.specs.History.{History, is_name, has_name, change_at, is_held, deps_of, deps_at}
use Rattle.change_graph.specs.Answers.{AreHeads}
use Rattle.change_graph.specs.Closure.{Start, Step, IsInClosure}
use Rattle.change_graph.specs.Histories.{IsClosed}
use Rattle.change_graph.specs.Nodes.{NodesView, IsDeep, depth_in}
use Rattle.change_graph.proofs.OrderLemmas.{name_same, name_itself}
use Rattle.change_graph.proofs.ReachedLemmas.{dep_depth}
use Rattle.change_graph.proofs.GrowthLemmas.{IsGrown, held_apart, old_at, new_at, held_stays, old_deps, new_deps, dep_was_held}

-- ---- each held change is behind a head

any_entry : (p : Name → Bool) (es : History) → list_any (λ e. p e.0) es ≡ true → (name : Name) × (p name ≡ true)
any_entry p [] some = cc
any_entry p (e ∷ es) some =
    elim (or_cases (p e.0) (list_any (λ x. p x.0) es) some) [
      | inl here ↦ (e.0, here)
      | inr later ↦ any_entry p es later
    ]

held_cases : (b : Bool) (c : Change) (o : Option Change) → is_some (cond b (Some c) o) ≡ true → (b ≡ true) ⊎ (is_some o ≡ true)
held_cases true c o held = inl refl
held_cases false c o held = inr held

entry_any : (p : Name → Bool) (es : History) (name : Name) → p name ≡ true → is_held es name ≡ true → list_any (λ e. p e.0) es ≡ true
entry_any p [] name passes held = cc
entry_any p (e ∷ es) name passes held =
    elim (held_cases (is_name name e.0) e.1 (change_at es name) held) [
      | inl same ↦ or_left (p e.0) (list_any (λ x. p x.0) es) (subst (λ (n : Name). p n ≡ true) (name_same name e.0 same) passes)
      | inr later ↦ or_right (p e.0) (list_any (λ x. p x.0) es) (entry_any p es name passes later)
    ]

dep_held_at : (o : Option Change) (dep : Name) → has_name (deps_of o) dep ≡ true → is_some o ≡ true
dep_held_at None dep has = cc
dep_held_at (Some c) dep has = refl

-- a held change is a head, or another names it
head_or_named : (history : History) (heads : List Name) → AreHeads history heads → (name : Name) → is_held history name ≡ true
    → (has_name heads name ≡ true) ⊎ ((above : Name) × (has_name (deps_at history above) name ≡ true))
head_or_named history heads are name held =
    elim (cases_Bool (list_any (λ e. has_name (deps_at history e.0) name) history)) [
      | inl some ↦ inr (any_entry (λ q. has_name (deps_at history q) name) history some)
      | inr none ↦ inl (are.all name held
          (λ above.
          false_from_ne_true (has_name (deps_at history above) name)
          (λ has.
          both_ways (list_any (λ e. has_name (deps_at history e.0) name) history) none
          (entry_any (λ q. has_name (deps_at history q) name) history above has (dep_held_at (change_at history above) name has)))))
    ]

behind_within : (nodes : NodesView) → IsDeep nodes → (heads : List Name) → AreHeads nodes.history heads → (left : ℕ) (name : Name)
    → is_held nodes.history name ≡ true → length nodes.history < depth_in nodes.depths name + left → IsInClosure nodes.history heads name
behind_within nodes deep heads are zero name held near =
    let few : depth_in nodes.depths name ≤ length nodes.history = deep.few name in absurd (omega (arith, few, near))
behind_within nodes deep heads are (suc left) name held near =
    elim (head_or_named nodes.history heads are name held) [
      | inl head ↦ Start name head held
      | inr named ↦
          let less : depth_in nodes.depths name < depth_in nodes.depths named.0 =
          dep_depth nodes.history (depth_in nodes.depths) deep.are_depths named.0 name named.1 in
          let nearer : length nodes.history < depth_in nodes.depths named.0 + left = omega (arith, less, near) in
          Step named.0 name
          (behind_within nodes deep heads are left named.0 (dep_held_at (change_at nodes.history named.0) name named.1) nearer) named.1
    ]

pub behind_heads : (nodes : NodesView) → IsDeep nodes → (heads : List Name) → AreHeads nodes.history heads → (name : Name)
    → is_held nodes.history name ≡ true → IsInClosure nodes.history heads name
behind_heads nodes deep heads are name held =
    behind_within nodes deep heads are (length nodes.history + 1) name held (omega arith)

-- ---- one change more

pub heads_grown : (nodes grown : NodesView) (name : Name) (change : Change) (depth : ℕ) → IsGrown nodes grown name change depth
    → IsClosed nodes.history → (heads after : List Name) → AreHeads nodes.history heads
    → ((q : Name) → has_name after q ≡ ((is_name name q || has_name heads q) && not (has_name change.deps q)))
    → AreHeads grown.history after
heads_grown nodes grown name change depth is closed heads after are changed = record {
  held = λ q has.
      let both = and_parts (is_name name q || has_name heads q) (not (has_name change.deps q)) (sym (changed q) ∙ has) in
      elim (or_cases (is_name name q) (has_name heads q) both.0) [
        | inl same ↦ ap (λ (o : Option Change). is_some o) (new_at nodes grown name change depth is q same)
        | inr old ↦ held_stays nodes grown name change depth is q (are.held q old)
      ];
  unnamed = λ q has above.
      let both = and_parts (is_name name q || has_name heads q) (not (has_name change.deps q)) (sym (changed q) ∙ has) in
      elim (or_cases (is_name name q) (has_name heads q) both.0) [
        | inl same ↦
            false_from_ne_true (has_name (deps_at grown.history above) q)
            (λ dep.
            both_ways (is_name name q)
            (held_apart nodes grown name change depth is q (dep_was_held nodes grown name change depth is closed above q dep)) same)
        | inr old ↦
            elim (cases_Bool (is_name name above)) [
              | inl new ↦ new_deps nodes grown name change depth is above q new ∙ not-true (has_name change.deps q) both.1
              | inr apart ↦ old_deps nodes grown name change depth is above q apart ∙ are.unnamed q old above
            ]
      ];
  all = λ q held unnamed.
      let not_dep : has_name change.deps q ≡ false =
      sym (new_deps nodes grown name change depth is name q (name_itself name)) ∙ unnamed name in
      changed q
      ∙ and_from (is_name name q || has_name heads q) (not (has_name change.deps q))
      (elim (cases_Bool (is_name name q)) [
        | inl same ↦ or_left (is_name name q) (has_name heads q) same
        | inr apart ↦
            or_right (is_name name q) (has_name heads q)
            (are.all q (ap (λ (o : Option Change). is_some o) (sym (old_at nodes grown name change depth is q apart)) ∙ held)
            (λ above. was_unnamed q unnamed above))
      ])
      (not_from_false (has_name change.deps q) not_dep);
}
  where
    nothing_at : (o : Option Change) (q : Name) → is_some o ≡ false → has_name (deps_of o) q ≡ false
    nothing_at None q none = refl
    nothing_at (Some c) q none = cc

    was_unnamed : (q : Name) → ((above : Name) → has_name (deps_at grown.history above) q ≡ false)
        → (above : Name) → has_name (deps_at nodes.history above) q ≡ false
    was_unnamed q unnamed above =
        elim (cases_Bool (is_name name above)) [
          | inl new ↦
              nothing_at (change_at nodes.history above) q
              (subst (λ (n : Name). is_held nodes.history n ≡ false) (name_same name above new) is.new)
          | inr apart ↦ sym (old_deps nodes grown name change depth is above q apart) ∙ unnamed above
        ]
