-- Sets of ids and of paths, as lists.
use Rattle.std.specs.Prelude.{ℕ, Bool, List}
use Rattle.std.specs.List.{list_any}
use Rattle.std.specs.Ordering.{nat_cmp}
use Rattle.std.specs.BTreeMap.{is_at}
use Rattle.std.specs.Cmp.Lexicographic.{slice_cmp}
use Rattle.tt_base.specs.Ids.{id_cmp}
use Rattle.tt_base.specs.declared.ids.ElemId.{ElemId}

-- whether the ids are one
abbrev pub is_id : ElemId → ElemId → Bool
is_id id = is_at (id_cmp id)

-- whether the paths, seen as their bytes, are one
abbrev pub is_path : List ℕ → List ℕ → Bool
is_path path = is_at (slice_cmp nat_cmp path)

-- whether the id is among these
abbrev pub has_id : List ElemId → ElemId → Bool
has_id ids id = list_any (is_id id) ids

-- whether the path is among these
abbrev pub has_path : List (List ℕ) → List ℕ → Bool
has_path paths path = list_any (is_path path) paths
