-- What every history keeps.
use Rattle.std.specs.Prelude.{◌≡◌, IsTrue, Some}
use Rattle.std.specs.Map.{keys_of}
use Rattle.std.specs.List.Sorted.{IsStrictlySortedBy}
use Rattle.tt_base.specs.Ids.{name_cmp}
use Rattle.tt_base.specs.declared.ids.Name.{Name}
use Rattle.change_codec.specs.Change.{Change}
use Rattle.change_graph.specs.History.{History, change_at, is_held, has_name, deps_at, name_of}
use Rattle.change_graph.specs.Closure.{IsAncestor}
use Rattle.change_graph.specs.Refusals.{IsAccepted}

-- Each dependency of a held change is held.
pub record IsClosed (history : History) : Type 0 where
  pub held : (name dep : Name) → IsTrue (has_name (deps_at history name) dep) → IsTrue (is_held history dep)

-- A finite map in which each name is that of its change; it is closed, no change is its own ancestor, and no operation is
-- refused (a hash graph, as that of Git or of Kleppmann and Howard, 2020).
pub record IsHistory (history : History) : Type 0 where
  pub named : (name : Name) (change : Change) → change_at history name ≡ Some change → name ≡ name_of change
  pub closed : IsClosed history
  pub rising : IsStrictlySortedBy name_cmp (keys_of history)
  pub acyclic : (name : Name) → IsAncestor history name name → ⊥
  pub accepted : (name : Name) (change : Change) → change_at history name ≡ Some change → IsAccepted history change
