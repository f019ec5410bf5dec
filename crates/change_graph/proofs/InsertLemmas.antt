-- Entries by names, with one more.
use Rattle.std.proofs.Common.{◌≡◌, ◌+◌, Bool, true, false, cond, refl, sym, ap, ◌∙◌, subst, List, [], ◌∷◌, length, Option, Some, None, is_some, is_eq, arith}
use Rattle.std.specs.declared.cmp.Ordering.{Ordering}
use Rattle.std.specs.declared.cmp.Ordering.TheVariants.{Less, Equal, Greater}
use Rattle.std.specs.Ordering.{match_ordering}
use Rattle.std.specs.Map.{lookup}
use Rattle.std.specs.BTreeMap.{insert_entry}
use Rattle.std.proofs.lemmas.Bool.{both_ways, false_from_ne_true}
use Rattle.tt_base.specs.Ids.{name_cmp}
use Rattle.tt_base.specs.declared.ids.Name.{Name}
use Rattle.tt_base.proofs.IdOrders.{name_tied}
use Rattle.change_graph.specs.History.{is_name}
use Rattle.change_graph.proofs.OrderLemmas.{name_same, name_swap}

module _ {X : Type 0} (name : Name) (value : X) where
  same_cases : (b : Bool) (old : X) (o : Option X) → cond b (Some value) o ≡ cond b (Some value) (cond b (Some old) o)
  same_cases true old o = refl
  same_cases false old o = refl

  behind_cases : (a b : Bool) (old : X) (o : Option X) → (a ≡ true → b ≡ false)
      → cond a (Some old) (cond b (Some value) o) ≡ cond b (Some value) (cond a (Some old) o)
  behind_cases true true old o apart = let never : true ≡ false = apart refl in cc
  behind_cases true false old o apart = refl
  behind_cases false b old o apart = refl

  found_cases : (r : Ordering) (e : Name × X) (es rest : List (Name × X)) (q : Name) → name_cmp name e.0 ≡ r
      → lookup (is_name q) rest ≡ cond (is_name name q) (Some value) (lookup (is_name q) es)
      → lookup (is_name q) (match_ordering r ((name, value) ∷ e ∷ es) ((e.0, value) ∷ es) (e ∷ rest))
      ≡ cond (is_name name q) (Some value) (cond (is_name q e.0) (Some e.1) (lookup (is_name q) es))
  found_cases Less e es rest q is behind =
      ap (λ (b : Bool). cond b (Some value) (cond (is_name q e.0) (Some e.1) (lookup (is_name q) es))) (name_swap q name)
  found_cases Equal e es rest q is behind =
      let at : is_name name q ≡ is_name q e.0 = name_swap name q ∙ ap (λ (n : Name). is_name q n) (name_tied name e.0 is) in
      same_cases (is_name q e.0) e.1 (lookup (is_name q) es)
      ∙ ap (λ (b : Bool). cond b (Some value) (cond (is_name q e.0) (Some e.1) (lookup (is_name q) es))) (sym at)
  found_cases Greater e es rest q is behind =
      ap (λ (o : Option X). cond (is_name q e.0) (Some e.1) o) behind
      ∙ behind_cases (is_name q e.0) (is_name name q) e.1 (lookup (is_name q) es)
      (λ here.
      false_from_ne_true (is_name name q)
      (λ same.
      both_ways (is_name name e.0) (ap is_eq is) (subst (λ (n : Name). is_name name n ≡ true) (name_same q e.0 here) same)))

  -- what stands under each name
  pub lookup_inserted : (es : List (Name × X)) (q : Name)
      → lookup (is_name q) (insert_entry name_cmp es name value) ≡ cond (is_name name q) (Some value) (lookup (is_name q) es)
  lookup_inserted [] q = ap (λ (b : Bool). cond b (Some value) None) (name_swap q name)
  lookup_inserted (e ∷ es) q =
      found_cases (name_cmp name e.0) e es (insert_entry name_cmp es name value) q refl (lookup_inserted es q)

  none_cases : (b : Bool) (old : X) (o : Option X) → is_some (cond b (Some old) o) ≡ false → (b ≡ false) × (is_some o ≡ false)
  none_cases true old o none = cc
  none_cases false old o none = (refl, none)

  length_cases : (r : Ordering) (e : Name × X) (es rest : List (Name × X)) → is_eq r ≡ false → length rest ≡ length es + 1
      → length (match_ordering r ((name, value) ∷ e ∷ es) ((e.0, value) ∷ es) (e ∷ rest)) ≡ length (e ∷ es) + 1
  length_cases Less e es rest apart longer = omega arith
  length_cases Equal e es rest apart longer = cc
  length_cases Greater e es rest apart longer = omega (arith, longer)

  -- a new name makes one entry more
  pub length_inserted : (es : List (Name × X)) → is_some (lookup (is_name name) es) ≡ false
      → length (insert_entry name_cmp es name value) ≡ length es + 1
  length_inserted [] none = omega arith
  length_inserted (e ∷ es) none =
      let both = none_cases (is_name name e.0) e.1 (lookup (is_name name) es) none in
      length_cases (name_cmp name e.0) e es (insert_entry name_cmp es name value) both.0 (length_inserted es both.1)
