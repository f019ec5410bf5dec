-- A walk down a history from its deepest changes.
use Rattle.std.specs.Prelude.{◌≡◌, ◌⊎◌, ℕ, ◌==◌, Bool, false, not, ◌&&◌, ◌||◌, IsTrue, List, Option, Some, None, length, filter, if◌then◌else◌}
use Rattle.std.specs.declared.cmp.Ordering.{Ordering}
use Rattle.std.specs.Ordering.{nat_cmp, ordering_then, is_lt}
use Rattle.std.specs.List.{list_any}
use Rattle.std.specs.Map.{lookup}
use Rattle.std.specs.BTreeMap.{is_at}
use Rattle.tt_base.specs.Ids.{name_cmp}
use Rattle.tt_base.specs.declared.ids.Name.{Name}
use Rattle.change_graph.specs.declared.places.Place.{Place}
use Rattle.change_graph.specs.History.{is_name, has_name, deps_at}
use Rattle.change_graph.specs.Closure.{IsReached, IsInClosure}
use Rattle.change_graph.specs.Nodes.{NodesView, depth_in}

-- places by depth, and then by name
abbrev pub place_cmp : Place → Place → Ordering
place_cmp a b = ordering_then (nat_cmp a.depth b.depth) (name_cmp a.name b.name)

-- whether the place is among these
abbrev pub has_place : List Place → Place → Bool
has_place places place = list_any (is_at (place_cmp place)) places

-- the place of a change
abbrev pub place_in : NodesView → Name → Place
place_in nodes name = record { depth = depth_in nodes.depths name; name = name }

abbrev pub is_depth : Option ℕ → ℕ → Bool
is_depth None number = false
is_depth (Some depth) number = depth == number

-- the place of a held change that is one of these names
abbrev pub is_place_of : NodesView → List Name → Place → Bool
is_place_of nodes names place = has_name names place.name && is_depth (lookup (is_name place.name) nodes.depths) place.depth

-- the places without the top one, and with those of its dependencies
abbrev pub is_below_top : NodesView → List Place → Place → Place → Bool
is_below_top nodes places top place =
    (if is_at (place_cmp top) place then false else has_place places place) || is_place_of nodes (deps_at nodes.history top.name) place

-- no place is behind the top
abbrev pub IsUpTo : List Place → Place → Type 0
IsUpTo places top = (place : Place) → IsTrue (has_place places place) → is_lt (place_cmp top place) ≡ false

-- the last of the places
pub record IsLast (places : List Place) (last : Place) : Type 0 where
  pub member : IsTrue (has_place places last)
  pub greatest : IsUpTo places last

-- what is still to be walked: what is wanted, what is covered, and what was found
pub record WalkView : Type 0 where
  pub wanted : List Place
  pub covered : List Place
  pub found : List Place

-- the names at these places, at their true depths
abbrev pub at_places : NodesView → List Place → Name → Bool
at_places nodes places name = has_place places (place_in nodes name)

abbrev pub at_either : NodesView → WalkView → Name → Bool
at_either nodes walk name = at_places nodes walk.wanted name || at_places nodes walk.covered name

-- each of the places is that of a change in the closure of these names
abbrev pub AreWithin : NodesView → List Name → List Place → Type 0
AreWithin nodes names places = (place : Place) → IsTrue (has_place places place)
    → (place ≡ place_in nodes place.name) × IsInClosure nodes.history names place.name

-- What each step of a walk keeps. Below what is still to be walked, what is had is just what is below the covered; and what is
-- needed was found, is had, or is still to be walked.
pub record IsWalk (nodes : NodesView) (need have : List Name) (walk : WalkView) : Type 0 where
  pub wanted : AreWithin nodes need walk.wanted
  pub covered : AreWithin nodes have walk.covered
  pub below : (name : Name) → IsReached nodes.history (at_either nodes walk) name → IsInClosure nodes.history have name
      → IsReached nodes.history (at_places nodes walk.covered) name
  pub rest : (name : Name) → IsInClosure nodes.history need name
      → IsTrue (at_places nodes walk.found name) ⊎ (IsInClosure nodes.history have name ⊎ IsReached nodes.history (at_either nodes walk) name)
  pub found : AreWithin nodes need walk.found
  pub not_had : (place : Place) → IsTrue (has_place walk.found place) → IsInClosure nodes.history have place.name → ⊥

-- how many held changes are not behind all of the places: what a walk has before it at most
abbrev pub work : NodesView → List Place → ℕ
work nodes places = length (filter (λ held. list_any (λ top. not (is_lt (place_cmp top (place_in nodes held.0)))) places) nodes.history)

-- the places found by the end of the walk
pub record IsWalked (nodes : NodesView) (need have : List Name) (found : List Place) : Type 0 where
  pub sound : AreWithin nodes need found
  pub not_had : (place : Place) → IsTrue (has_place found place) → IsInClosure nodes.history have place.name → ⊥
  pub all : (name : Name) → IsInClosure nodes.history need name
      → IsTrue (at_places nodes found name) ⊎ IsInClosure nodes.history have name

abbrev pub known_unless : NodesView → List Place → Name → Option ℕ → Bool
known_unless nodes outside name None = false
known_unless nodes outside name (Some depth) = not (has_place outside (record { depth = depth; name = name }))

-- the change is held, and not at one of these places
abbrev pub is_known : NodesView → List Place → Name → Bool
is_known nodes outside name = known_unless nodes outside name (lookup (is_name name) nodes.depths)
