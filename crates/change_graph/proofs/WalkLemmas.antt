-- What each step of a walk keeps.
use Rattle.std.proofs.Common.{◌≡◌, ◌⊎◌, inl, inr, Bool, true, false, cond, refl, sym, ap, ◌∙◌, subst, List, [], ◌++◌, ◌<◌, is_lt}
use Rattle.std.specs.declared.cmp.Ordering.TheVariants.{Less}
use Rattle.std.specs.BTreeMap.{is_at}
use Rattle.std.proofs.lemmas.Bool.{or_cases, or_left, or_right}
use Rattle.tt_base.specs.declared.ids.Name.{Name}
use Rattle.change_graph.specs.declared.places.Place.{Place}
use Rattle.change_graph.specs.History.{is_name, has_name, is_held, deps_at}
use Rattle.change_graph.specs.Closure.{IsReached, Start, Step, IsInClosure}
use Rattle.change_graph.specs.Nodes.{NodesView, IsDeep}
use Rattle.change_graph.specs.Walk.{place_cmp, has_place, place_in, is_place_of, is_below_top, IsUpTo, IsLast, WalkView, at_places, at_either, AreWithin, IsWalk, IsWalked, work}
use Rattle.change_graph.proofs.OrderLemmas.{place_same, place_itself, is_less, before_itself, up_to_before}
use Rattle.change_graph.proofs.ReachedLemmas.{reached_held, reached_again, reached_past, reached_none}
use Rattle.change_graph.proofs.PlaceLemmas.{place_is_of, place_of_is, reached_before, without_cases, without_from, apart_at, before_top, below_cases, below_before, below_rest, below_dep}
use Rattle.change_graph.proofs.WorkLemmas.{work_less, either_place, in_one, in_other}

-- the names that are first put in are within their closure
entered_within : (nodes : NodesView) → IsDeep nodes → (names : List Name) (places : List Place)
    → ((place : Place) → has_place places place ≡ is_place_of nodes names place) → AreWithin nodes names places
entered_within nodes deep names places entered place has =
    let of = place_of_is nodes deep names place (sym (entered place) ∙ has) in
    (of.true_place, Start place.name of.named of.held)

entered_all : (nodes : NodesView) → IsDeep nodes → (names : List Name) (places : List Place)
    → ((place : Place) → has_place places place ≡ is_place_of nodes names place)
    → (name : Name) → has_name names name ≡ true → is_held nodes.history name ≡ true → at_places nodes places name ≡ true
entered_all nodes deep names places entered name has held =
    entered (place_in nodes name) ∙ place_is_of nodes deep names name has held

-- before the first step
pub walk_begins : (nodes : NodesView) → IsDeep nodes → (need have : List Name) (walk : WalkView)
    → ((place : Place) → has_place walk.wanted place ≡ is_place_of nodes need place)
    → ((place : Place) → has_place walk.covered place ≡ is_place_of nodes have place)
    → walk.found ≡ [] → IsWalk nodes need have walk
walk_begins nodes deep need have walk wanted covered none = record {
  wanted = entered_within nodes deep need walk.wanted wanted;
  covered = entered_within nodes deep have walk.covered covered;
  below = λ name reached had.
      reached_again (has_name have) (at_places nodes walk.covered)
      (λ n has held. Start n (entered_all nodes deep have walk.covered covered n has held) held) had;
  rest = λ name needed.
      inr (inr (reached_again (has_name need) (at_either nodes walk)
      (λ n has held. Start n (or_left (at_places nodes walk.wanted n) (at_places nodes walk.covered n) (entered_all nodes deep need walk.wanted wanted n has held)) held) needed));
  found = λ place has. absurd (nothing place has);
  not_had = λ place has. absurd (nothing place has);
} where
  nothing : (place : Place) → has_place walk.found place ≡ true → ⊥
  nothing place has = let e : has_place [] place ≡ true = subst (λ (ps : List Place). has_place ps place ≡ true) none has in cc

-- the top place among places that are of changes within a closure
pub top_held : (nodes : NodesView) → IsDeep nodes → (names : List Name) (places : List Place) (top : Place) → AreWithin nodes names places
    → has_place places top ≡ true → is_held nodes.history top.name ≡ true
top_held nodes deep names places top within has = reached_held deep.closed (has_name names) (within top has).1

at_top : (nodes : NodesView) (places : List Place) (top : Place) → top ≡ place_in nodes top.name → has_place places top ≡ true
    → at_places nodes places top.name ≡ true
at_top nodes places top true_top has = subst (λ (p : Place). has_place places p ≡ true) true_top has

-- places below the top stay within the closure
below_within : (nodes : NodesView) → IsDeep nodes → (names : List Name) (places after : List Place) (top : Place)
    → has_place places top ≡ true → ((place : Place) → has_place after place ≡ is_below_top nodes places top place)
    → AreWithin nodes names places → AreWithin nodes names after
below_within nodes deep names places after top has_top changed within place has =
    elim (below_cases nodes places top place (sym (changed place) ∙ has)) [
      | inl rest ↦ within place rest.1
      | inr dep ↦
          let of = place_of_is nodes deep (deps_at nodes.history top.name) place dep in
          (of.true_place, Step top.name place.name (within top has_top).1 of.named)
    ]

-- ---- a covered top is passed

module _ (nodes : NodesView) (deep : IsDeep nodes) (need have : List Name) (walk after : WalkView) (top : Place) (last : IsLast walk.covered top) (up_to : IsUpTo walk.wanted top) (wanted : (place : Place) → has_place after.wanted place ≡ cond (is_at (place_cmp top) place) false (has_place walk.wanted place)) (covered : (place : Place) → has_place after.covered place ≡ is_below_top nodes walk.covered top place) (found : after.found ≡ walk.found) (before : IsWalk nodes need have walk) where
  pass_true : top ≡ place_in nodes top.name
  pass_true = (before.covered top last.member).0

  pass_had : IsInClosure nodes.history have top.name
  pass_had = (before.covered top last.member).1

  pass_wanted_old : (place : Place) → has_place after.wanted place ≡ true
      → (is_at (place_cmp top) place ≡ false) × (has_place walk.wanted place ≡ true)
  pass_wanted_old place has = without_cases (is_at (place_cmp top) place) (has_place walk.wanted place) (sym (wanted place) ∙ has)

  -- what is left stands before the top
  pass_left : (name : Name) → at_either nodes after name ≡ true → place_cmp (place_in nodes name) top ≡ Less
  pass_left name left =
      elim (or_cases (at_places nodes after.wanted name) (at_places nodes after.covered name) left) [
        | inl w ↦
            let old = pass_wanted_old (place_in nodes name) w in
            before_top walk.wanted top (place_in nodes name) up_to old.0 old.1
        | inr c ↦ below_before nodes deep walk.covered top (place_in nodes name) last.greatest pass_true (sym (covered (place_in nodes name)) ∙ c)
      ]

  -- and is reached from what was left
  pass_old : (name : Name) → at_either nodes after name ≡ true → is_held nodes.history name ≡ true → IsReached nodes.history (at_either nodes walk) name
  pass_old name left held =
      elim (or_cases (at_places nodes after.wanted name) (at_places nodes after.covered name) left) [
        | inl w ↦ Start name (or_left (at_places nodes walk.wanted name) (at_places nodes walk.covered name) (pass_wanted_old (place_in nodes name) w).1) held
        | inr c ↦ elim (below_cases nodes walk.covered top (place_in nodes name) (sym (covered (place_in nodes name)) ∙ c)) [
          | inl rest ↦ Start name (or_right (at_places nodes walk.wanted name) (at_places nodes walk.covered name) rest.1) held
          | inr dep ↦
              let of = place_of_is nodes deep (deps_at nodes.history top.name) (place_in nodes name) dep in
              Step top.name name
              (Start top.name (or_right (at_places nodes walk.wanted top.name) (at_places nodes walk.covered top.name) (at_top nodes walk.covered top pass_true last.member)) (reached_held deep.closed (has_name have) pass_had))
              of.named
        ]
      ]

  pass_covered_rest : (name : Name) → at_places nodes walk.covered name ≡ true → is_name top.name name ≡ false → at_places nodes after.covered name ≡ true
  pass_covered_rest name has apart = covered (place_in nodes name) ∙ below_rest nodes walk.covered top name apart has

  pass_covered_dep : (name : Name) → has_name (deps_at nodes.history top.name) name ≡ true → at_places nodes after.covered name ≡ true
  pass_covered_dep name dep = covered (place_in nodes name) ∙ below_dep nodes deep walk.covered top name dep

  pass_rest : (name : Name) → at_either nodes walk name ≡ true → is_name top.name name ≡ false → at_either nodes after name ≡ true
  pass_rest name has apart =
      elim (or_cases (at_places nodes walk.wanted name) (at_places nodes walk.covered name) has) [
        | inl w ↦ or_left (at_places nodes after.wanted name) (at_places nodes after.covered name) (wanted (place_in nodes name) ∙ without_from (is_at (place_cmp top) (place_in nodes name)) (has_place walk.wanted (place_in nodes name)) (apart_at nodes top name apart) w)
        | inr c ↦ or_right (at_places nodes after.wanted name) (at_places nodes after.covered name) (pass_covered_rest name c apart)
      ]

  pass_below : (name : Name) → IsReached nodes.history (at_either nodes after) name → IsInClosure nodes.history have name
      → IsReached nodes.history (at_places nodes after.covered) name
  pass_below name reached had =
      let old : IsReached nodes.history (at_either nodes walk) name = reached_again (at_either nodes after) (at_either nodes walk) pass_old reached in
      elim (reached_past deep.closed (at_places nodes walk.covered) (at_places nodes after.covered) top.name pass_covered_rest pass_covered_dep (before.below name old had)) [
        | inl is ↦
            let less : place_cmp (place_in nodes name) top ≡ Less = reached_before nodes deep (at_either nodes after) top (λ n has held. pass_left n has) reached in
            let own : place_cmp (place_in nodes top.name) top ≡ Less = subst (λ (n : Name). place_cmp (place_in nodes n) top ≡ Less) (sym is) less in
            absurd (before_itself top (subst (λ (p : Place). place_cmp p top ≡ Less) (sym pass_true) own))
        | inr again ↦ again
      ]

  pass_left_over : (name : Name) → IsReached nodes.history (at_either nodes walk) name
      → IsInClosure nodes.history have name ⊎ IsReached nodes.history (at_either nodes after) name
  pass_left_over name reached =
      elim (reached_past deep.closed (at_either nodes walk) (at_either nodes after) top.name pass_rest (λ n dep. or_right (at_places nodes after.wanted n) (at_places nodes after.covered n) (pass_covered_dep n dep)) reached) [
        | inl is ↦ inl (subst (IsInClosure nodes.history have) is pass_had)
        | inr again ↦ inr again
      ]

  pub passed : IsWalk nodes need have after
  passed = record {
    wanted = λ place has. before.wanted place (pass_wanted_old place has).1;
    covered = below_within nodes deep have walk.covered after.covered top last.member covered before.covered;
    below = pass_below;
    rest = λ name needed. elim (before.rest name needed) [
      | inl there ↦ inl (subst (λ (ps : List Place). at_places nodes ps name ≡ true) (sym {A = List Place} found) there)
      | inr other ↦ elim other [
        | inl had ↦ inr (inl had)
        | inr reached ↦ inr (pass_left_over name reached)
      ]
    ];
    found = subst (AreWithin nodes need) (sym {A = List Place} found) before.found;
    not_had = λ place has. before.not_had place (subst (λ (ps : List Place). has_place ps place ≡ true) found has);
  }

-- ---- a wanted top is found

module _ (nodes : NodesView) (deep : IsDeep nodes) (need have : List Name) (walk after : WalkView) (top : Place) (last : IsLast walk.wanted top) (behind : (place : Place) → has_place walk.covered place ≡ true → is_lt (place_cmp place top) ≡ true) (wanted : (place : Place) → has_place after.wanted place ≡ is_below_top nodes walk.wanted top place) (covered : after.covered ≡ walk.covered) (found : (place : Place) → has_place after.found place ≡ cond (is_at (place_cmp top) place) true (has_place walk.found place)) (before : IsWalk nodes need have walk) where
  find_true : top ≡ place_in nodes top.name
  find_true = (before.wanted top last.member).0

  find_needed : IsInClosure nodes.history need top.name
  find_needed = (before.wanted top last.member).1

  find_start : IsReached nodes.history (at_either nodes walk) top.name
  find_start = Start top.name (or_left (at_places nodes walk.wanted top.name) (at_places nodes walk.covered top.name) (at_top nodes walk.wanted top find_true last.member)) (reached_held deep.closed (has_name need) find_needed)

  covered_after : (name : Name) → at_places nodes after.covered name ≡ at_places nodes walk.covered name
  covered_after name = ap (λ (ps : List Place). at_places nodes ps name) covered

  find_old : (name : Name) → at_either nodes after name ≡ true → is_held nodes.history name ≡ true → IsReached nodes.history (at_either nodes walk) name
  find_old name left held =
      elim (or_cases (at_places nodes after.wanted name) (at_places nodes after.covered name) left) [
        | inl w ↦ elim (below_cases nodes walk.wanted top (place_in nodes name) (sym (wanted (place_in nodes name)) ∙ w)) [
          | inl rest ↦ Start name (or_left (at_places nodes walk.wanted name) (at_places nodes walk.covered name) rest.1) held
          | inr dep ↦
              let of = place_of_is nodes deep (deps_at nodes.history top.name) (place_in nodes name) dep in
              Step top.name name find_start of.named
        ]
        | inr c ↦ Start name (or_right (at_places nodes walk.wanted name) (at_places nodes walk.covered name) (sym (covered_after name) ∙ c)) held
      ]

  find_rest : (name : Name) → at_either nodes walk name ≡ true → is_name top.name name ≡ false → at_either nodes after name ≡ true
  find_rest name has apart =
      elim (or_cases (at_places nodes walk.wanted name) (at_places nodes walk.covered name) has) [
        | inl w ↦ or_left (at_places nodes after.wanted name) (at_places nodes after.covered name) (wanted (place_in nodes name) ∙ below_rest nodes walk.wanted top name apart w)
        | inr c ↦ or_right (at_places nodes after.wanted name) (at_places nodes after.covered name) (covered_after name ∙ c)
      ]

  find_dep : (name : Name) → has_name (deps_at nodes.history top.name) name ≡ true → at_either nodes after name ≡ true
  find_dep name dep = or_left (at_places nodes after.wanted name) (at_places nodes after.covered name) (wanted (place_in nodes name) ∙ below_dep nodes deep walk.wanted top name dep)

  found_is : (b x : Bool) → b ≡ true → cond b true x ≡ true
  found_is b x here = ap (λ (c : Bool). cond c true x) here

  found_stays : (b x : Bool) → x ≡ true → cond b true x ≡ true
  found_stays true x there = refl
  found_stays false x there = there

  found_cases : (b x : Bool) → cond b true x ≡ true → (b ≡ true) ⊎ (x ≡ true)
  found_cases true x e = inl refl
  found_cases false x e = inr e

  find_left_over : (name : Name) → IsReached nodes.history (at_either nodes walk) name
      → (at_places nodes after.found name ≡ true) ⊎ IsReached nodes.history (at_either nodes after) name
  find_left_over name reached =
      elim (reached_past deep.closed (at_either nodes walk) (at_either nodes after) top.name find_rest find_dep reached) [
        | inl is ↦
            let own : at_places nodes after.found top.name ≡ true =
            found (place_in nodes top.name)
            ∙ found_is (is_at (place_cmp top) (place_in nodes top.name)) (has_place walk.found (place_in nodes top.name)) (subst (λ (p : Place). is_at (place_cmp top) p ≡ true) find_true (place_itself top)) in
            inl (subst (λ (n : Name). at_places nodes after.found n ≡ true) is own)
        | inr again ↦ inr again
      ]

  find_not_had : IsInClosure nodes.history have top.name → ⊥
  find_not_had had =
      let reached : IsReached nodes.history (at_places nodes walk.covered) top.name = before.below top.name find_start had in
      let less : place_cmp (place_in nodes top.name) top ≡ Less =
      reached_before nodes deep (at_places nodes walk.covered) top (λ n has held. is_less (place_cmp (place_in nodes n) top) (behind (place_in nodes n) has)) reached in
      before_itself top (subst (λ (p : Place). place_cmp p top ≡ Less) (sym find_true) less)

  pub found_next : IsWalk nodes need have after
  found_next = record {
    wanted = below_within nodes deep need walk.wanted after.wanted top last.member wanted before.wanted;
    covered = subst (AreWithin nodes have) (sym {A = List Place} covered) before.covered;
    below = λ name reached had.
        subst (λ (ps : List Place). IsReached nodes.history (at_places nodes ps) name) (sym {A = List Place} covered)
        (before.below name (reached_again (at_either nodes after) (at_either nodes walk) find_old reached) had);
    rest = λ name needed. elim (before.rest name needed) [
      | inl there ↦ inl (found (place_in nodes name) ∙ found_stays (is_at (place_cmp top) (place_in nodes name)) (has_place walk.found (place_in nodes name)) there)
      | inr other ↦ elim other [
        | inl had ↦ inr (inl had)
        | inr reached ↦ elim (find_left_over name reached) [ inl here ↦ inl here | inr again ↦ inr (inr again) ]
      ]
    ];
    found = λ place has. elim (found_cases (is_at (place_cmp top) place) (has_place walk.found place) (sym (found place) ∙ has)) [
      | inl same ↦ subst (λ (p : Place). (p ≡ place_in nodes p.name) × IsInClosure nodes.history need p.name) (place_same top place same) (find_true, find_needed)
      | inr old ↦ before.found place old
    ];
    not_had = λ place has. elim (found_cases (is_at (place_cmp top) place) (has_place walk.found place) (sym (found place) ∙ has)) [
      | inl same ↦ subst (λ (p : Place). IsInClosure nodes.history have p.name → ⊥) (place_same top place same) find_not_had
      | inr old ↦ before.not_had place old
    ];
  }

-- ---- steps, with the work that they leave

pub pass_step : (nodes : NodesView) → IsDeep nodes → (old : WalkView) (wanted covered found wanted_after covered_after : List Place) (top : Place)
    → record { wanted = wanted; covered = covered; found = found } ≡ old → IsLast old.covered top → IsUpTo old.wanted top
    → ((place : Place) → has_place wanted_after place ≡ cond (is_at (place_cmp top) place) false (has_place wanted place))
    → ((place : Place) → has_place covered_after place ≡ is_below_top nodes covered top place)
    → (need have : List Name) → IsWalk nodes need have old
    → IsWalk nodes need have (record { wanted = wanted_after; covered = covered_after; found = found })
    × (work nodes (wanted_after ++ covered_after) < work nodes (old.wanted ++ old.covered))
pass_step nodes deep old wanted covered found wanted_after covered_after top is last up_to removed changed need have before = (
  passed nodes deep need have old (record { wanted = wanted_after; covered = covered_after; found = found }) top last up_to wanted_is covered_is
      (ap (λ (w : WalkView). w.found) is) before,
  work_less nodes (old.wanted ++ old.covered) (wanted_after ++ covered_after) top (in_other old.wanted old.covered top last.member) true_top
      (top_held nodes deep have old.covered top before.covered last.member) left,
)
  where
    wanted_is : (place : Place) → has_place wanted_after place ≡ cond (is_at (place_cmp top) place) false (has_place old.wanted place)
    wanted_is place = removed place ∙ ap (λ (w : WalkView). cond (is_at (place_cmp top) place) false (has_place w.wanted place)) is

    covered_is : (place : Place) → has_place covered_after place ≡ is_below_top nodes old.covered top place
    covered_is place = changed place ∙ ap (λ (w : WalkView). is_below_top nodes w.covered top place) is

    true_top : top ≡ place_in nodes top.name
    true_top = (before.covered top last.member).0

    left : (place : Place) → has_place (wanted_after ++ covered_after) place ≡ true → place_cmp place top ≡ Less
    left place has = elim (either_place wanted_after covered_after place has) [
      | inl w ↦
          let old_one = without_cases (is_at (place_cmp top) place) (has_place old.wanted place) (sym (wanted_is place) ∙ w) in
          before_top old.wanted top place up_to old_one.0 old_one.1
      | inr c ↦ below_before nodes deep old.covered top place last.greatest true_top (sym (covered_is place) ∙ c)
    ]

pub find_step : (nodes : NodesView) → IsDeep nodes → (old : WalkView) (wanted covered found wanted_after found_after : List Place) (top : Place)
    → record { wanted = wanted; covered = covered; found = found } ≡ old → IsLast old.wanted top
    → ((place : Place) → has_place old.covered place ≡ true → is_lt (place_cmp place top) ≡ true)
    → ((place : Place) → has_place found_after place ≡ cond (is_at (place_cmp top) place) true (has_place found place))
    → ((place : Place) → has_place wanted_after place ≡ is_below_top nodes wanted top place)
    → (need have : List Name) → IsWalk nodes need have old
    → IsWalk nodes need have (record { wanted = wanted_after; covered = covered; found = found_after })
    × (work nodes (wanted_after ++ covered) < work nodes (old.wanted ++ old.covered))
find_step nodes deep old wanted covered found wanted_after found_after top is last behind added changed need have before = (
  found_next nodes deep need have old (record { wanted = wanted_after; covered = covered; found = found_after }) top last behind wanted_is
      (ap (λ (w : WalkView). w.covered) is) found_is_now before,
  work_less nodes (old.wanted ++ old.covered) (wanted_after ++ covered) top (in_one old.wanted old.covered top last.member) true_top
      (top_held nodes deep need old.wanted top before.wanted last.member) left,
)
  where
    wanted_is : (place : Place) → has_place wanted_after place ≡ is_below_top nodes old.wanted top place
    wanted_is place = changed place ∙ ap (λ (w : WalkView). is_below_top nodes w.wanted top place) is

    found_is_now : (place : Place) → has_place found_after place ≡ cond (is_at (place_cmp top) place) true (has_place old.found place)
    found_is_now place = added place ∙ ap (λ (w : WalkView). cond (is_at (place_cmp top) place) true (has_place w.found place)) is

    true_top : top ≡ place_in nodes top.name
    true_top = (before.wanted top last.member).0

    left : (place : Place) → has_place (wanted_after ++ covered) place ≡ true → place_cmp place top ≡ Less
    left place has = elim (either_place wanted_after covered place has) [
      | inl w ↦ below_before nodes deep old.wanted top place last.greatest true_top (sym (wanted_is place) ∙ w)
      | inr c ↦ is_less (place_cmp place top) (behind place (sym (ap (λ (w : WalkView). has_place w.covered place) is) ∙ c))
    ]

-- ---- the end of a walk, where nothing is wanted any more

pub walk_ends : (nodes : NodesView) (need have : List Name) (walk : WalkView) → IsWalk nodes need have walk → walk.wanted ≡ []
    → IsWalked nodes need have walk.found
walk_ends nodes need have walk is none = record {
  sound = is.found;
  not_had = is.not_had;
  all = λ name needed. elim (is.rest name needed) [
    | inl there ↦ inl there
    | inr other ↦ elim other [
      | inl had ↦ inr had
      | inr reached ↦ inr (reached_again (at_either nodes walk) (has_name have) left_had reached)
    ]
  ];
} where
  left_had : (name : Name) → at_either nodes walk name ≡ true → is_held nodes.history name ≡ true → IsInClosure nodes.history have name
  left_had name left held =
      elim (or_cases (at_places nodes walk.wanted name) (at_places nodes walk.covered name) left) [
        | inl w ↦ let e : has_place [] (place_in nodes name) ≡ true = subst (λ (ps : List Place). at_places nodes ps name ≡ true) none w in cc
        | inr c ↦ (is.covered (place_in nodes name) c).1
      ]

-- ---- a walk towards one change

-- what is left leads to the change, where the names do
pub record IsOnTheWay (nodes : NodesView) (names : List Name) (target : Name) (places : List Place) : Type 0 where
  pub within : AreWithin nodes names places
  pub leads : IsInClosure nodes.history names target → IsReached nodes.history (at_places nodes places) target

pub way_begins : (nodes : NodesView) → IsDeep nodes → (names : List Name) (target : Name) (places : List Place)
    → ((place : Place) → has_place places place ≡ is_place_of nodes names place) → IsOnTheWay nodes names target places
way_begins nodes deep names target places entered = record {
  within = entered_within nodes deep names places entered;
  leads = λ in_closure.
      reached_again (has_name names) (at_places nodes places)
      (λ n has held. Start n (entered_all nodes deep names places entered n has held) held) in_closure;
}

-- past a top that stands behind the change
pub way_goes : (nodes : NodesView) → IsDeep nodes → (names : List Name) (target top : Place) (places after : List Place)
    → IsLast places top → place_cmp target top ≡ Less
    → ((place : Place) → has_place after place ≡ is_below_top nodes places top place)
    → IsOnTheWay nodes names target.name places → target ≡ place_in nodes target.name → IsOnTheWay nodes names target.name after
way_goes nodes deep names target top places after last less changed way there = record {
  within = below_within nodes deep names places after top last.member changed way.within;
  leads = λ in_closure.
      elim (reached_past deep.closed (at_places nodes places) (at_places nodes after) top.name
      (λ n has apart. changed (place_in nodes n) ∙ below_rest nodes places top n apart has)
      (λ n dep. changed (place_in nodes n) ∙ below_dep nodes deep places top n dep) (way.leads in_closure)) [
        | inl is ↦
            let true_top : top ≡ place_in nodes top.name = (way.within top last.member).0 in
            let same : top ≡ target = true_top ∙ ap (place_in nodes) is ∙ sym there in
            absurd (before_itself top (subst (λ (p : Place). place_cmp p top ≡ Less) (sym same) less))
        | inr again ↦ again
      ];
}

-- at the change
pub way_there : (nodes : NodesView) (names : List Name) (target top : Place) (places : List Place)
    → IsLast places top → target ≡ top → IsOnTheWay nodes names target.name places → IsInClosure nodes.history names target.name
way_there nodes names target top places last is way =
    subst (λ (p : Place). IsInClosure nodes.history names p.name) (sym is) (way.within top last.member).1

-- past it
pub way_lost : (nodes : NodesView) → IsDeep nodes → (names : List Name) (target top : Place) (places : List Place)
    → IsLast places top → place_cmp top target ≡ Less → target ≡ place_in nodes target.name
    → IsOnTheWay nodes names target.name places → IsInClosure nodes.history names target.name → ⊥
way_lost nodes deep names target top places last less there way in_closure =
    let own : place_cmp (place_in nodes target.name) target ≡ Less =
    reached_before nodes deep (at_places nodes places) target
    (λ n has held. up_to_before (place_in nodes n) top target (place_cmp top (place_in nodes n)) refl (last.greatest (place_in nodes n) has) less)
    (way.leads in_closure) in
    before_itself target (subst (λ (p : Place). place_cmp p target ≡ Less) (sym there) own)

pub way_none : (nodes : NodesView) (names : List Name) (target : Name) (places : List Place) → places ≡ []
    → IsOnTheWay nodes names target places → IsInClosure nodes.history names target → ⊥
way_none nodes names target places none way in_closure =
    reached_none (at_places nodes places)
    (λ n has. let e : has_place [] (place_in nodes n) ≡ true = subst (λ (ps : List Place). at_places nodes ps n ≡ true) none has in cc)
    (way.leads in_closure)
