-- The places of changes.
use Rattle.std.proofs.Common.{Bor, ◌↔◌, MatchOption, IfSome, IsSome, take, get_or, ◌+◌, length, arith, ◌≡◌, ◌⊎◌, inl, inr, ℕ, ◌<◌, ◌==◌, Bool, true, false, cond, ◌||◌, ◌&&◌, refl, sym, ap, ◌∙◌, subst, List, [], ◌∷◌, Option, Some, None, is_some, lt-ltb, eq-eqb, eqb-true}
use Rattle.std.specs.declared.cmp.Ordering.{Ordering}
use Rattle.std.specs.declared.cmp.Ordering.TheVariants.{Less, Equal, Greater}
use Rattle.std.specs.Ordering.{nat_cmp, ordering_then}
use Rattle.std.specs.Map.{lookup}
use Rattle.std.specs.BTreeMap.{is_at}
use Rattle.std.specs.Option.{unwrap_or, option_map}
use Rattle.std.proofs.lemmas.List.Folds.{list_any_more}
use Rattle.std.proofs.lemmas.Bool.{or_cases, or_left, or_right, and_from, and_parts, both_ways, false_from_ne_true}
use Rattle.tt_base.specs.declared.ids.Name.{Name}
use Rattle.change_graph.specs.declared.places.Place.{Place}
use Rattle.change_graph.specs.History.{is_name, has_name, is_held, deps_at}
use Rattle.change_graph.specs.Closure.{IsReached, Start, Step}
use Rattle.change_graph.specs.Nodes.{NodesView, IsDeep, depth_in}
use Rattle.change_graph.specs.Walk.{place_cmp, has_place, place_in, is_depth, is_place_of, is_below_top, IsUpTo, IsLast, at_places}
use Rattle.change_graph.proofs.OrderLemmas.{name_same, name_itself, place_same, place_itself, place_cmp_total, behind_else}
use Rattle.change_graph.proofs.ReachedLemmas.{dep_depth}

some_depth : (o : Option ℕ) → is_some o ≡ true → is_depth o (unwrap_or o 0) ≡ true
some_depth None some = cc
some_depth (Some depth) some = eq-eqb depth depth refl

depth_some : (o : Option ℕ) (depth : ℕ) → is_depth o depth ≡ true → o ≡ Some depth
depth_some None depth is = cc
depth_some (Some other) depth is = ap Some (eqb-true other depth is)

-- the place of a held one of the names is such a place
pub place_is_of : (nodes : NodesView) → IsDeep nodes → (names : List Name) (name : Name) → has_name names name ≡ true
    → is_held nodes.history name ≡ true → is_place_of nodes names (place_in nodes name) ≡ true
place_is_of nodes deep names name has held =
    and_from (has_name names name) (is_depth (lookup (is_name name) nodes.depths) (depth_in nodes.depths name)) has
    (some_depth (lookup (is_name name) nodes.depths) (deep.paired name ∙ held))

-- and each such place is that of a held one of the names
pub record IsOf (nodes : NodesView) (names : List Name) (place : Place) : Type 0 where
  pub true_place : place ≡ place_in nodes place.name
  pub named : has_name names place.name ≡ true
  pub held : is_held nodes.history place.name ≡ true

pub place_of_is : (nodes : NodesView) → IsDeep nodes → (names : List Name) (place : Place) → is_place_of nodes names place ≡ true → IsOf nodes names place
place_of_is nodes deep names place is =
    let both = and_parts (has_name names place.name) (is_depth (lookup (is_name place.name) nodes.depths) place.depth) is in
    let found : lookup (is_name place.name) nodes.depths ≡ Some place.depth = depth_some _ _ both.1 in
    let depth : place.depth ≡ depth_in nodes.depths place.name = sym (ap (λ (o : Option ℕ). unwrap_or o 0) found) in
    let held : is_held nodes.history place.name ≡ true = sym (deep.paired place.name) ∙ ap (λ (o : Option ℕ). is_some o) found in
    record {
      true_place = λ i. record { depth = depth i; name = place.name };
      named = both.0;
      held = held;
    }

less_then : (m n : ℕ) (s : Ordering) → m < n → ordering_then (nat_cmp m n) s ≡ Less
less_then m n s less = ap (λ (b : Bool). ordering_then (cond b Less (cond (m == n) Equal Greater)) s) (lt-ltb m n less)

-- a dependency stands before what depends on it
pub dep_before : (nodes : NodesView) → IsDeep nodes → (above below : Name) → has_name (deps_at nodes.history above) below ≡ true
    → place_cmp (place_in nodes below) (place_in nodes above) ≡ Less
dep_before nodes deep above below dep =
    less_then _ _ _ (dep_depth nodes.history (depth_in nodes.depths) deep.are_depths above below dep)

-- what is reached from names that stand before a place stands before it
pub reached_before : (nodes : NodesView) → IsDeep nodes → (from : Name → Bool) (top : Place)
    → ((name : Name) → from name ≡ true → is_held nodes.history name ≡ true → place_cmp (place_in nodes name) top ≡ Less)
    → {name : Name} → IsReached nodes.history from name → place_cmp (place_in nodes name) top ≡ Less
reached_before nodes deep from top each (Start name passes held) = each name passes held
reached_before nodes deep from top each (Step above below reached dep) =
    place_cmp_total.trans (place_in nodes below) (place_in nodes above) top (dep_before nodes deep above below dep)
    (reached_before nodes deep from top each reached)

-- the place of another change is another place
pub apart_at : (nodes : NodesView) (top : Place) (name : Name) → is_name top.name name ≡ false → is_at (place_cmp top) (place_in nodes name) ≡ false
apart_at nodes top name apart =
    false_from_ne_true (is_at (place_cmp top) (place_in nodes name))
    (λ same.
    let e : top.name ≡ name = ap (λ (p : Place). p.name) (place_same top (place_in nodes name) same) in
    both_ways (is_name top.name name) apart (subst (λ (n : Name). is_name top.name n ≡ true) e (name_itself top.name)))

-- ---- places without the top one

pub without_cases : (b x : Bool) → cond b false x ≡ true → (b ≡ false) × (x ≡ true)
without_cases true x e = cc
without_cases false x e = (refl, e)

pub without_from : (b x : Bool) → b ≡ false → x ≡ true → cond b false x ≡ true
without_from b x apart there = ap (λ (c : Bool). cond c false x) apart ∙ there

-- those that stand up to the top stand before it, but for the top
pub before_top : (places : List Place) (top place : Place) → IsUpTo places top → is_at (place_cmp top) place ≡ false → has_place places place ≡ true
    → place_cmp place top ≡ Less
before_top places top place up_to apart has = behind_else top place (place_cmp top place) refl (up_to place has) apart

-- what is below the top is another of the places, or the place of a dependency
pub below_cases : (nodes : NodesView) (places : List Place) (top place : Place) → is_below_top nodes places top place ≡ true
    → ((is_at (place_cmp top) place ≡ false) × (has_place places place ≡ true)) ⊎ (is_place_of nodes (deps_at nodes.history top.name) place ≡ true)
below_cases nodes places top place below =
    elim (or_cases (cond (is_at (place_cmp top) place) false (has_place places place)) (is_place_of nodes (deps_at nodes.history top.name) place) below) [
      | inl rest ↦ inl (without_cases _ _ rest)
      | inr dep ↦ inr dep
    ]

-- the places below the top stand before it
pub below_before : (nodes : NodesView) → IsDeep nodes → (places : List Place) (top place : Place) → IsUpTo places top → top ≡ place_in nodes top.name
    → is_below_top nodes places top place ≡ true → place_cmp place top ≡ Less
below_before nodes deep places top place up_to true_top below =
    elim (below_cases nodes places top place below) [
      | inl rest ↦ before_top places top place up_to rest.0 rest.1
      | inr dep ↦
          let of = place_of_is nodes deep (deps_at nodes.history top.name) place dep in
          subst (λ (p : Place). place_cmp p top ≡ Less) (sym of.true_place)
          (subst (λ (p : Place). place_cmp (place_in nodes place.name) p ≡ Less) (sym true_top) (dep_before nodes deep top.name place.name of.named))
    ]

-- another of the names is below the top
pub below_rest : (nodes : NodesView) (places : List Place) (top : Place) (name : Name) → is_name top.name name ≡ false → at_places nodes places name ≡ true
    → is_below_top nodes places top (place_in nodes name) ≡ true
below_rest nodes places top name apart has =
    or_left _ _ (without_from _ _ (apart_at nodes top name apart) has)

-- a dependency is below the top
pub below_dep : (nodes : NodesView) → IsDeep nodes → (places : List Place) (top : Place) (name : Name) → has_name (deps_at nodes.history top.name) name ≡ true
    → is_below_top nodes places top (place_in nodes name) ≡ true
below_dep nodes deep places top name dep =
    or_right _ _ (place_is_of nodes deep (deps_at nodes.history top.name) name dep (deep.closed.held top.name name dep))

-- ---- sets of places

cond_or : (b h : Bool) → cond b true h ≡ (h || b)
cond_or true true = refl
cond_or true false = refl
cond_or false true = refl
cond_or false false = refl

pub or_false : (b : Bool) → b ≡ (b || false)
or_false true = refl
or_false false = refl

bool_iff : (a b : Bool) → (a ≡ true → b ≡ true) → (b ≡ true → a ≡ true) → a ≡ b
bool_iff true b there back = sym (there refl)
bool_iff false true there back = back refl
bool_iff false false there back = refl

module _ (nodes : NodesView) (name : Name) where
  one_name : (other : Name) → has_name (name ∷ []) other ≡ true → other ≡ name
  one_name other has = elim (or_cases (is_name other name) false has) [
    | inl same ↦ name_same other name same
    | inr never ↦ cc
  ]

  place_test : (depth : ℕ) → Some depth ≡ lookup (is_name name) nodes.depths → (place : Place)
      → is_at (place_cmp (record { depth = depth; name = name })) place ≡ is_place_of nodes (name ∷ []) place
  place_test depth found place =
      bool_iff (is_at (place_cmp (record { depth = depth; name = name })) place) (is_place_of nodes (name ∷ []) place)
      (λ same. subst (λ (p : Place). is_place_of nodes (name ∷ []) p ≡ true) (place_same (record { depth = depth; name = name }) place same) own)
      (λ is.
      let both = and_parts (has_name (name ∷ []) place.name) (is_depth (lookup (is_name place.name) nodes.depths) place.depth) is in
      let same_name : place.name ≡ name = one_name place.name both.0 in
      let at_name : is_depth (lookup (is_name name) nodes.depths) place.depth ≡ true =
      subst (λ (n : Name). is_depth (lookup (is_name n) nodes.depths) place.depth ≡ true) same_name both.1 in
      let same_depth : depth ≡ place.depth = eqb-true depth place.depth (subst (λ (o : Option ℕ). is_depth o place.depth ≡ true) (sym found) at_name) in
      let back : name ≡ place.name = sym same_name in
      let same : record { depth = depth; name = name } ≡ place = (λ i. record { depth = same_depth i; name = back i }) in
      subst (λ (p : Place). is_at (place_cmp (record { depth = depth; name = name })) p ≡ true) same (place_itself (record { depth = depth; name = name })))
    where
      own : is_place_of nodes (name ∷ []) (record { depth = depth; name = name }) ≡ true
      own =
          and_from (has_name (name ∷ []) name) (is_depth (lookup (is_name name) nodes.depths) depth)
          (or_left (is_name name name) false (name_itself name))
          (subst (λ (o : Option ℕ). is_depth o depth ≡ true) found (eq-eqb depth depth refl))

  -- the place of one held name is put in
  pub one_entered : (depth : ℕ) (old new : List Place) → Some depth ≡ lookup (is_name name) nodes.depths
      → ((place : Place) → has_place new place ≡ cond (is_at (place_cmp (record { depth = depth; name = name })) place) true (has_place old place))
      → (place : Place) → has_place new place ≡ (has_place old place || is_place_of nodes (name ∷ []) place)
  one_entered depth old new found changed place =
      changed place
      ∙ cond_or (is_at (place_cmp (record { depth = depth; name = name })) place) (has_place old place)
      ∙ ap (λ (b : Bool). has_place old place || b) (place_test depth found place)

  -- a name that is not held puts nothing in
  pub one_absent : (old : List Place) → None ≡ lookup (is_name name) nodes.depths
      → (place : Place) → has_place old place ≡ (has_place old place || is_place_of nodes (name ∷ []) place)
  one_absent old absent place =
      or_false (has_place old place)
      ∙ ap (λ (b : Bool). has_place old place || b)
      (sym (false_from_ne_true (is_place_of nodes (name ∷ []) place)
      (λ is.
      let both = and_parts (has_name (name ∷ []) place.name) (is_depth (lookup (is_name place.name) nodes.depths) place.depth) is in
      let at_name : is_depth (lookup (is_name name) nodes.depths) place.depth ≡ true =
      subst (λ (n : Name). is_depth (lookup (is_name n) nodes.depths) place.depth ≡ true) (one_name place.name both.0) both.1 in
      let never : false ≡ true = subst (λ (o : Option ℕ). is_depth o place.depth ≡ true) (sym absent) at_name in
      cc)))

more_cases : (h a n d : Bool) → ((h || (a && d)) || ((n || false) && d)) ≡ (h || ((a || n) && d))
more_cases true a n d = refl
more_cases false true n true = refl
more_cases false true true false = refl
more_cases false true false false = refl
more_cases false false true d = refl
more_cases false false false d = refl

-- the names up to one more
pub entered_more : (nodes : NodesView) (names : List Name) (i : ℕ) (x : Name) (old mid new : List Place) → i < length names → x ≡ get_or names i x
    → ((place : Place) → has_place mid place ≡ (has_place old place || is_place_of nodes (take i names) place))
    → ((place : Place) → has_place new place ≡ (has_place mid place || is_place_of nodes (x ∷ []) place))
    → (place : Place) → has_place new place ≡ (has_place old place || is_place_of nodes (take (i + 1) names) place)
entered_more nodes names i x old mid new within is before step place =
    let more : has_name (take (i + 1) names) place.name ≡ (has_name (take i names) place.name || is_name place.name x) =
    list_any_more (is_name place.name) names i x within
    ∙ ap (λ (n : Name). has_name (take i names) place.name || is_name place.name n) (sym is) in
    step place
    ∙ ap (λ (b : Bool). b || is_place_of nodes (x ∷ []) place) (before place)
    ∙ more_cases (has_place old place) (has_name (take i names) place.name) (is_name place.name x) (is_depth (lookup (is_name place.name) nodes.depths) place.depth)
    ∙ ap (λ (b : Bool). has_place old place || (b && is_depth (lookup (is_name place.name) nodes.depths) place.depth)) (sym more)

pub entered_none : (nodes : NodesView) (old : List Place) (place : Place) → has_place old place ≡ (has_place old place || is_place_of nodes [] place)
entered_none nodes old place = or_false (has_place old place)

-- the top is taken out, and its dependencies are put in
pub descended : (nodes : NodesView) (old mid new : List Place) (top : Place) (deps : List Name) → deps ≡ deps_at nodes.history top.name
    → ((place : Place) → has_place mid place ≡ cond (is_at (place_cmp top) place) false (has_place old place))
    → ((place : Place) → has_place new place ≡ (has_place mid place || is_place_of nodes deps place))
    → (place : Place) → has_place new place ≡ is_below_top nodes old top place
descended nodes old mid new top deps is removed entered place =
    entered place ∙ (λ i. removed place i || is_place_of nodes (is i) place)

pub descended_none : (nodes : NodesView) (old mid : List Place) (top : Place) → [] ≡ deps_at nodes.history top.name
    → ((place : Place) → has_place mid place ≡ cond (is_at (place_cmp top) place) false (has_place old place))
    → (place : Place) → has_place mid place ≡ is_below_top nodes old top place
descended_none nodes old mid top is removed place =
    or_false (has_place mid place) ∙ (λ i. removed place i || is_place_of nodes (is i) place)

pub last_is : (keys : List Place) (r : Option (Bor Place)) → IsSome r ↔ (0 < length keys)
    → IfSome r (λ k. has_place keys k.now ≡ true) → IfSome r (λ k. IsUpTo keys k.now)
    → MatchOption (option_map (λ (x : Bor Place). x.now) r) (keys ≡ []) (IsLast keys)
last_is [] None variant member greatest = refl
last_is (k ∷ ks) None variant member greatest = let some : IsSome {T = Bor Place} None = variant.1 (omega arith) in cc
last_is keys (Some k) variant member greatest = record { member = member; greatest = greatest }
