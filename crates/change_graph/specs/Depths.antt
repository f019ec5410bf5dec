-- Depths of changes, and their order (a change is deeper than all that it depends on, as a moment of Lamport's clock, 1978).
use Rattle.std.specs.Prelude.{◌≡◌, ℕ, ◌+◌, max, IsTrue, List, [], ◌∷◌, map, Some}
use Rattle.std.specs.declared.cmp.Ordering.{Ordering}
use Rattle.std.specs.Ordering.{nat_cmp, ordering_then}
use Rattle.tt_base.specs.Ids.{name_cmp}
use Rattle.tt_base.specs.declared.ids.Name.{Name}
use Rattle.change_codec.specs.Change.{Change}
use Rattle.change_graph.specs.History.{History, change_at, is_held}

-- the greatest of the numbers, and 0 where there are none
abbrev pub greatest : List ℕ → ℕ
greatest [] = 0
greatest (n ∷ ns) = max n (greatest ns)

-- The depth of each held change is 1 more than the greatest depth of its dependencies, and 1 where it has none.
pub record IsDepths (history : History) (depth : Name → ℕ) : Type 0 where
  pub each : (name : Name) (change : Change) → change_at history name ≡ Some change
      → depth name ≡ greatest (map depth change.deps) + 1

-- the change is held, and this is its depth
pub record IsDepth (history : History) (name : Name) (number : ℕ) : Type 0 where
  pub held : IsTrue (is_held history name)
  pub depth : Name → ℕ
  pub are_depths : IsDepths history depth
  pub is : depth name ≡ number

-- names by the depths of their changes, and by their bytes where these tie
abbrev pub by_depth : (Name → ℕ) → Name → Name → Ordering
by_depth depth a b = ordering_then (nat_cmp (depth a) (depth b)) (name_cmp a b)
