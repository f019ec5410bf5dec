-- Each step of a walk leaves less to walk.
use Rattle.std.proofs.Common.{◌≡◌, ◌⊎◌, inl, inr, ◌<◌, ◌≤◌, Bool, true, false, cond, not, ◌&&◌, refl, sym, ap, ◌∙◌, subst, List, [], ◌∷◌, ◌++◌, Some, is_some, is_lt, length, suc-le-suc, arith}
use Rattle.std.specs.declared.cmp.Ordering.TheVariants.{Less}
use Rattle.std.specs.List.{list_any, filter}
use Rattle.std.specs.Map.{lookup}
use Rattle.std.specs.BTreeMap.{is_at}
use Rattle.std.proofs.lemmas.Bool.{cases_Bool, or_cases, or_left, or_right, and_from, and_parts, both_ways, not_from_false, not-true, false_from_ne_true}
use Rattle.std.proofs.lemmas.List.Folds.{list_any-append}
use Rattle.tt_base.specs.declared.ids.Name.{Name}
use Rattle.change_graph.specs.declared.places.Place.{Place}
use Rattle.change_graph.specs.History.{History, is_name, is_held}
use Rattle.change_graph.specs.Nodes.{NodesView}
use Rattle.change_graph.specs.Walk.{place_cmp, has_place, place_in, work}
use Rattle.change_graph.proofs.OrderLemmas.{name_same, place_same, place_itself, place_cmp_total, is_less, before_itself}

-- ---- counts

module _ {X : Type 0} (p q : X → Bool) where
  le_step : (a b : Bool) (x : X) (xs ys : List X) → (a ≡ true → b ≡ true) → length xs ≤ length ys
      → length (cond a (x ∷ xs) xs) ≤ length (cond b (x ∷ ys) ys)
  le_step true true x xs ys implies le = suc-le-suc le
  le_step true false x xs ys implies le = let e : false ≡ true = implies refl in cc
  le_step false true x xs ys implies le = omega (arith, le)
  le_step false false x xs ys implies le = le

  filter_le : (xs : List X) → ((x : X) → p x ≡ true → q x ≡ true) → length (filter p xs) ≤ length (filter q xs)
  filter_le [] implies = omega arith
  filter_le (x ∷ xs) implies = le_step (p x) (q x) x (filter p xs) (filter q xs) (implies x) (filter_le xs implies)

  one_less : (a b : Bool) (x : X) (xs ys : List X) → b ≡ true → a ≡ false → length xs ≤ length ys
      → length (cond a (x ∷ xs) xs) < length (cond b (x ∷ ys) ys)
  one_less true b x xs ys passes fails le = cc
  one_less false true x xs ys passes fails le = suc-le-suc le
  one_less false false x xs ys passes fails le = cc

  less_step : (a b : Bool) (x : X) (xs ys : List X) → (a ≡ true → b ≡ true) → length xs < length ys
      → length (cond a (x ∷ xs) xs) < length (cond b (x ∷ ys) ys)
  less_step true true x xs ys implies less = suc-le-suc less
  less_step true false x xs ys implies less = let e : false ≡ true = implies refl in cc
  less_step false true x xs ys implies less = omega (arith, less)
  less_step false false x xs ys implies less = less

  -- fewer pass the one test, where each that passes it passes the other, and one more passes that
  filter_less : (xs : List X) → ((x : X) → p x ≡ true → q x ≡ true) → list_any (λ x. q x && not (p x)) xs ≡ true
      → length (filter p xs) < length (filter q xs)
  filter_less [] implies some = cc
  filter_less (x ∷ xs) implies some =
      elim (or_cases (q x && not (p x)) (list_any (λ y. q y && not (p y)) xs) some) [
        | inl here ↦
            let both = and_parts (q x) (not (p x)) here in
            one_less (p x) (q x) x (filter p xs) (filter q xs) both.0 (not-true (p x) both.1) (filter_le xs implies)
        | inr later ↦ less_step (p x) (q x) x (filter p xs) (filter q xs) (implies x) (filter_less xs implies later)
      ]

-- ---- places

any_member : (p : Place → Bool) (places : List Place) → list_any p places ≡ true → (place : Place) × (has_place places place ≡ true) × (p place ≡ true)
any_member p [] some = cc
any_member p (x ∷ xs) some =
    elim (or_cases (p x) (list_any p xs) some) [
      | inl here ↦ (x, or_left _ _ (place_itself x), here)
      | inr later ↦
          let found = any_member p xs later in
          (found.0, or_right _ _ found.1, found.2)
    ]

member_any : (p : Place → Bool) (places : List Place) (place : Place) → has_place places place ≡ true → p place ≡ true → list_any p places ≡ true
member_any p [] place has passes = cc
member_any p (x ∷ xs) place has passes =
    elim (or_cases (is_at (place_cmp place) x) (has_place xs place) has) [
      | inl same ↦ or_left _ _ (subst (λ (y : Place). p y ≡ true) (place_same place x same) passes)
      | inr later ↦ or_right _ _ (member_any p xs place later passes)
    ]

entry_of_held : (history : History) (name : Name) (p : Name → Bool) → p name ≡ true → is_held history name ≡ true → list_any (λ e. p e.0) history ≡ true
entry_of_held [] name p passes held = cc
entry_of_held (e ∷ es) name p passes held =
    elim (cases_Bool (is_name name e.0)) [
      | inl same ↦ or_left _ _ (subst (λ (n : Name). p n ≡ true) (name_same name e.0 same) passes)
      | inr apart ↦
          or_right _ _ (entry_of_held es name p passes
          (sym (ap (λ (b : Bool). is_some (cond b (Some e.1) (lookup (is_name name) es))) apart) ∙ held))
    ]

-- ---- the work that is left

abbrev is_open : NodesView → List Place → Name → Bool
is_open nodes places name = list_any (λ top. not (is_lt (place_cmp top (place_in nodes name)))) places

-- what is not above the places after is not above the top
was_open : (nodes : NodesView) (places after : List Place) (top : Place) → has_place places top ≡ true
    → ((place : Place) → has_place after place ≡ true → place_cmp place top ≡ Less)
    → (name : Name) → is_open nodes after name ≡ true → is_open nodes places name ≡ true
was_open nodes places after top has left name open_after =
    let found = any_member (λ t. not (is_lt (place_cmp t (place_in nodes name)))) after open_after in
    let not_before : is_lt (place_cmp found.0 (place_in nodes name)) ≡ false = not-true _ found.2 in
    let not_above : is_lt (place_cmp top (place_in nodes name)) ≡ false =
    false_from_ne_true (is_lt (place_cmp top (place_in nodes name)))
    (λ above.
    both_ways (is_lt (place_cmp found.0 (place_in nodes name))) not_before
    (ap is_lt (place_cmp_total.trans found.0 top (place_in nodes name) (left found.0 found.1) (is_less _ above)))) in
    member_any (λ t. not (is_lt (place_cmp t (place_in nodes name)))) places top has (not_from_false _ not_above)

is_closed : (nodes : NodesView) (after : List Place) (top : Place) → top ≡ place_in nodes top.name
    → ((place : Place) → has_place after place ≡ true → place_cmp place top ≡ Less) → is_open nodes after top.name ≡ false
is_closed nodes after top true_top left =
    false_from_ne_true (is_open nodes after top.name)
    (λ open_after.
    let found = any_member (λ t. not (is_lt (place_cmp t (place_in nodes top.name)))) after open_after in
    both_ways (is_lt (place_cmp found.0 (place_in nodes top.name))) (not-true _ found.2)
    (ap is_lt (subst (λ (p : Place). place_cmp found.0 p ≡ Less) true_top (left found.0 found.1))))

pub work_less : (nodes : NodesView) (places after : List Place) (top : Place) → has_place places top ≡ true → top ≡ place_in nodes top.name
    → is_held nodes.history top.name ≡ true → ((place : Place) → has_place after place ≡ true → place_cmp place top ≡ Less)
    → work nodes after < work nodes places
work_less nodes places after top has true_top held left =
    filter_less (λ e. is_open nodes after e.0) (λ e. is_open nodes places e.0) nodes.history
    (λ e. was_open nodes places after top has left e.0)
    (entry_of_held nodes.history top.name (λ name. is_open nodes places name && not (is_open nodes after name))
    (and_from _ _ top_open (not_from_false _ (is_closed nodes after top true_top left))) held)
  where
    top_open : is_open nodes places top.name ≡ true
    top_open =
        member_any (λ t. not (is_lt (place_cmp t (place_in nodes top.name)))) places top has
        (not_from_false _
        (false_from_ne_true (is_lt (place_cmp top (place_in nodes top.name)))
        (λ less. before_itself top (subst (λ (p : Place). place_cmp top p ≡ Less) (sym true_top) (is_less _ less)))))

-- places of two lists
pub either_place : (one other : List Place) (place : Place) → has_place (one ++ other) place ≡ true
    → (has_place one place ≡ true) ⊎ (has_place other place ≡ true)
either_place one other place has = or_cases _ _ (sym (list_any-append (is_at (place_cmp place)) one other) ∙ has)

pub in_one : (one other : List Place) (place : Place) → has_place one place ≡ true → has_place (one ++ other) place ≡ true
in_one one other place has = list_any-append (is_at (place_cmp place)) one other ∙ or_left _ _ has

pub in_other : (one other : List Place) (place : Place) → has_place other place ≡ true → has_place (one ++ other) place ≡ true
in_other one other place has = list_any-append (is_at (place_cmp place)) one other ∙ or_right _ _ has
