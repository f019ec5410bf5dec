-- Which objects stand at each path after a history, and which of them is read there.
use Rattle.std.specs.Prelude.{◌≡◌, ◌↔◌, ℕ, ◌+◌, not, List, [], ◌∷◌, ◌++◌, flat_map, length, Option, Some, None, IsTrue, if◌then◌else◌}
use Rattle.std.specs.List.{filter}
use Rattle.std.specs.List.Sorted.{IsStrictlySortedBy}
use Rattle.std.specs.Ordering.{nat_cmp}
use Rattle.std.specs.Cmp.Lexicographic.{slice_cmp}
use Rattle.tt_base.specs.declared.ids.Name.{Name}
use Rattle.tt_base.specs.declared.ids.ElemId.{ElemId}
use Rattle.change_codec.specs.Change.{Change}
use Rattle.change_codec.specs.declared.ops.Op.{Op}
use Rattle.change_codec.specs.declared.ops.Op.TheVariants.{Make, Remove, Insert, Delete}
use Rattle.change_graph.specs.History.{History}
use Rattle.change_graph.specs.Refusals.{things_of}
use Rattle.replica_dir.specs.Ids.{is_path, has_id, has_path}
use Rattle.replica_dir.specs.DirectoryView.{DirectoryView, is_made, is_removed}
use Rattle.replica_text.specs.Ids.{less}
use Rattle.replica_views.specs.Ids.{id_at, id_of}

-- ---- makes and removes

-- the object that an operation makes at the path, where the change of this name is at this index
abbrev pub makes_of : History → Name → List ℕ → ℕ → Op → List ElemId
makes_of history name path index (Make other) = if is_path path other then id_at history name index ∷ [] else []
makes_of history name path index (Remove object) = []
makes_of history name path index (Insert object parent text) = []
makes_of history name path index (Delete object first count) = []

-- the objects that operations make at the path, from an index of their change on
abbrev pub makes_from : History → Name → List ℕ → ℕ → List Op → List ElemId
makes_from history name path index [] = []
makes_from history name path index (op ∷ ops) =
    makes_of history name path index op ++ makes_from history name path (index + length (things_of op)) ops

-- the objects that were ever made at the path
abbrev pub makes_at : History → List ℕ → List ElemId
makes_at history path = flat_map (λ (held : Name × Change). makes_from history held.0 path 0 held.1.ops) history

abbrev pub removes_of : History → Name → Op → List ElemId
removes_of history name (Make path) = []
removes_of history name (Remove object) = id_of history name object ∷ []
removes_of history name (Insert object parent text) = []
removes_of history name (Delete object first count) = []

-- the objects that held changes remove
abbrev pub removes : History → List ElemId
removes history = flat_map (λ (held : Name × Change). flat_map (removes_of history held.0) held.1.ops) history

-- the directory was told just the makes and the removes of the history
pub record IsDirectoryOf (history : History) (directory : DirectoryView) : Type 0 where
  pub makes : (path : List ℕ) (id : ElemId) → is_made directory path id ≡ has_id (makes_at history path) id
  pub removes : (id : ElemId) → is_removed directory id ≡ has_id (removes history) id

-- ---- what stands there

-- The live objects of a path: those that were made there and that no held change removes (the two-phase set of Shapiro and
-- others, 2011).
abbrev pub live_at : History → List ℕ → List ElemId
live_at history path = filter (λ id. not (has_id (removes history) id)) (makes_at history path)

abbrev pub greater_of : ElemId → Option ElemId → Option ElemId
greater_of id None = Some id
greater_of id (Some other) = if less id other then Some other else Some id

-- the greatest of the ids, where there is one
abbrev pub greatest_id : List ElemId → Option ElemId
greatest_id [] = None
greatest_id (id ∷ ids) = greater_of id (greatest_id ids)

-- the winner of a path: the greatest live object there
unfoldable pub winner_at : History → List ℕ → Option ElemId
winner_at history path = greatest_id (live_at history path)

-- the paths at which an object was ever made, each once, in the order of paths
pub record ArePaths (history : History) (paths : List (List ℕ)) : Type 0 where
  pub members : (path : List ℕ) → IsTrue (has_path paths path) ↔ ((id : ElemId) × IsTrue (has_id (makes_at history path) id))
  pub rising : IsStrictlySortedBy (slice_cmp nat_cmp) paths
