-- What changes depend on, directly or not (the reachable part of a directed graph).
use Rattle.std.specs.Prelude.{Bool, IsTrue, List}
use Rattle.tt_base.specs.declared.ids.Name.{Name}
use Rattle.change_graph.specs.History.{History, has_name, is_held, deps_at}

-- What is reached from the names that pass a test: those of them that are held, and the dependencies of each that is reached.
pub data IsReached (history : History) (from : Name → Bool) : Name → Type 0 where
  Start : (name : Name) → IsTrue (from name) → IsTrue (is_held history name) → IsReached history from name
  Step : (above below : Name) → IsReached history from above → IsTrue (has_name (deps_at history above) below)
      → IsReached history from below

-- The closure of names: those of them that are held, with all that they depend on, directly or not.
abbrev pub IsInClosure : History → List Name → Name → Type 0
IsInClosure history names name = IsReached history (has_name names) name

-- The ancestors of a change are the closure of its dependencies.
abbrev pub IsAncestor : History → Name → Name → Type 0
IsAncestor history ancestor name = IsInClosure history (deps_at history name) ancestor

-- the test that is true of just the closure of the names
pub record IsClosureTest (history : History) (names : List Name) (test : Name → Bool) : Type 0 where
  pub only : (name : Name) → IsTrue (test name) → IsInClosure history names name
  pub all : (name : Name) → IsInClosure history names name → IsTrue (test name)
