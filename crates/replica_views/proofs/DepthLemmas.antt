-- Depths: what is found in so many steps back is the depth, and one change more leaves the depths of the others.
use Rattle.std.proofs.Common.{◌≡◌, ℕ, zero, suc, ◌+◌, ◌<◌, ◌≤◌, true, refl, sym, ap, ◌∙◌, List, [], map, length, Option, Some, None, is_some, arith}
use Rattle.std.specs.BTreeMap.{insert_entry}
use Rattle.tt_base.specs.Ids.{name_cmp}
use Rattle.tt_base.specs.declared.ids.Name.{Name}
use Rattle.change_codec.specs.Change.{Change}
use Rattle.change_graph.specs.History.{History, has_name, change_at, is_held, deps_of, deps_at, name_of, with_change}
use Rattle.change_graph.specs.Depths.{greatest, IsDepths}
use Rattle.change_graph.specs.Histories.{IsClosed}
use Rattle.change_graph.specs.Nodes.{NodesView, IsDeep, depth_in}
use Rattle.change_graph.specs.Answers.{IsNext}
use Rattle.change_graph.proofs.OrderLemmas.{name_itself}
use Rattle.change_graph.proofs.ReachedLemmas.{dep_depth}
use Rattle.change_graph.proofs.GrowthLemmas.{IsGrown as Grows, map_same, held_apart, held_stays, new_at, old_depth, new_depth, deep_grown}
use Rattle.change_graph.proofs.GraphLemmas.{growth, none_missing}
use Rattle.replica_views.specs.Ids.{depth_within, depth_at, depth_above}
use Rattle.replica_views.specs.Growth.{IsGrown, Begun, Come}

module _ (history : History) (closed : IsClosed history) (depth : Name → ℕ) (are : IsDepths history depth) where
  -- a depth is found in as many steps
  found_at : (steps : ℕ) (name : Name) (o : Option Change) → change_at history name ≡ o → is_some o ≡ true → depth name ≤ steps
      → depth_within steps history name ≡ depth name
  found_at zero name None is held few = cc
  found_at zero name (Some change) is held few = let e = are.each name change is in absurd (omega (arith, e, few))
  found_at (suc steps) name None is held few = cc
  found_at (suc steps) name (Some change) is held few =
      ap (λ (n : ℕ). n + 1)
      (ap (λ (o : Option Change). greatest (map (depth_within steps history) (deps_of o))) is
      ∙ ap greatest
      (map_same (depth_within steps history) depth change.deps
      (λ dep has.
      let own : has_name (deps_at history name) dep ≡ true = ap (λ (o : Option Change). has_name (deps_of o) dep) is ∙ has in
      let less : depth dep < depth name = dep_depth history depth are name dep own in
      found_at steps dep (change_at history dep) refl (closed.held name dep own) (omega (arith, less, few)))))
      ∙ sym (are.each name change is)

  pub depth_found : (steps : ℕ) (name : Name) → is_held history name ≡ true → depth name ≤ steps → depth_within steps history name ≡ depth name
  depth_found steps name held few = found_at steps name (change_at history name) refl held few

-- the depths of a history, in a list beside it
pub record HasDepths (history : History) : Type 0 where
  pub depths : List (Name × ℕ)
  pub deep : IsDeep (record { history = history; depths = depths })

abbrev pub nodes_of : (history : History) → HasDepths history → NodesView
nodes_of history has = record { history = history; depths = has.depths }

pub depth_listed : (history : History) (has : HasDepths history) (name : Name) → is_held history name ≡ true
    → depth_at history name ≡ depth_in has.depths name
unfolding depth_at
depth_listed history has name held =
    depth_found history has.deep.closed (depth_in has.depths) has.deep.are_depths (length history) name held (has.deep.few name)

pub above_listed : (history : History) (has : HasDepths history) (deps : List Name) → ((n : Name) → has_name deps n ≡ true → is_held history n ≡ true)
    → depth_above history deps ≡ greatest (map (depth_in has.depths) deps) + 1
above_listed history has deps ready =
    ap (λ (ns : List ℕ). greatest ns + 1)
    (map_same (depth_at history) (depth_in has.depths) deps (λ n is. depth_listed history has n (ready n is)))

module _ (history : History) (change : Change) (has : HasDepths history) (next : IsNext history change) where
  ready : (n : Name) → has_name change.deps n ≡ true → is_held history n ≡ true
  ready = none_missing history change.deps next.ready

  abbrev depth : ℕ
  depth = greatest (map (depth_in has.depths) change.deps) + 1

  abbrev grown : NodesView
  grown = record { history = with_change history change; depths = insert_entry name_cmp has.depths (name_of change) depth }

  pub growing : Grows (nodes_of history has) grown (name_of change) change depth
  growing = growth (nodes_of history has) grown (name_of change) change depth next refl refl refl

  pub depths_go_on : HasDepths (with_change history change)
  depths_go_on = record {
    depths = grown.depths;
    deep = deep_grown (nodes_of history has) grown (name_of change) change depth growing has.deep;
  }

  -- what was held keeps its depth
  pub depth_stays : (q : Name) → is_held history q ≡ true → depth_at (with_change history change) q ≡ depth_at history q
  unfolding depths_go_on
  depth_stays q held =
      depth_listed (with_change history change) depths_go_on q
      (held_stays (nodes_of history has) grown (name_of change) change depth growing q held)
      ∙ old_depth (nodes_of history has) grown (name_of change) change depth growing q
      (held_apart (nodes_of history has) grown (name_of change) change depth growing q held)
      ∙ sym (depth_listed history has q held)

  -- and the new change has the depth above its dependencies
  pub depth_of_new : depth_at (with_change history change) (name_of change) ≡ depth_above history change.deps
  unfolding depths_go_on
  depth_of_new =
      depth_listed (with_change history change) depths_go_on (name_of change)
      (ap (λ (o : Option Change). is_some o)
      (new_at (nodes_of history has) grown (name_of change) change depth growing (name_of change) (name_itself (name_of change))))
      ∙ new_depth (nodes_of history has) grown (name_of change) change depth growing (name_of change) (name_itself (name_of change))
      ∙ sym (above_listed history has change.deps ready)

no_depths : HasDepths []
no_depths = record {
  depths = [];
  deep = record {
    closed = record { held = λ name dep is. cc };
    paired = λ name. refl;
    are_depths = record { each = λ name change is. cc };
    few = λ name. omega arith;
  };
}

pub grown_depths : (history : History) → IsGrown history → HasDepths history
grown_depths history Begun = no_depths
grown_depths history (Come before change grown may) = depths_go_on before change (grown_depths before grown) may.next

-- the depths are those of the history
pub are_depths : (history : History) → IsGrown history → IsDepths history (depth_at history)
are_depths history grown =
    let has : HasDepths history = grown_depths history grown in
    record {
      each = λ name change is.
          depth_listed history has name (ap (λ (o : Option Change). is_some o) is)
          ∙ has.deep.are_depths.each name change is
          ∙ sym (above_listed history has change.deps
          (λ dep own. has.deep.closed.held name dep (ap (λ (o : Option Change). has_name (deps_of o) dep) is ∙ own)));
    }

-- no change is deeper than there are changes
pub depth_few : (history : History) → IsGrown history → (name : Name) → is_held history name ≡ true → depth_at history name ≤ length history
depth_few history grown name held =
    let has : HasDepths history = grown_depths history grown in
    let is = depth_listed history has name held in
    let few = has.deep.few name in
    omega (arith, is, few)

-- a change is deeper than what it depends on
pub dep_is_less : (history : History) → IsGrown history → (name dep : Name) → has_name (deps_at history name) dep ≡ true
    → depth_at history dep < depth_at history name
dep_is_less history grown name dep own = dep_depth history (depth_at history) (are_depths history grown) name dep own
