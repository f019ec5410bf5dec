-- What the operations of a change do, told by ids.
use Rattle.std.specs.Prelude.{◌≡◌, ℕ, ◌+◌, Bool, true, ◌&&◌, List, [], ◌∷◌, ◌++◌, length}
use Rattle.std.specs.List.{list_any}
use Rattle.tt_base.specs.declared.ids.Name.{Name}
use Rattle.tt_base.specs.declared.ids.ElemId.{ElemId}
use Rattle.change_codec.specs.declared.ops.Ref.{Ref}
use Rattle.change_codec.specs.declared.ops.Ref.TheVariants.{Here, There}
use Rattle.change_codec.specs.declared.ops.Parent.{Parent}
use Rattle.change_codec.specs.declared.ops.Parent.TheVariants.{Root, After}
use Rattle.change_codec.specs.declared.ops.Op.{Op}
use Rattle.change_codec.specs.declared.ops.Op.TheVariants.{Make, Remove, Insert, Delete}
use Rattle.change_graph.specs.History.{History, is_held}
use Rattle.change_graph.specs.Refusals.{things_of}
use Rattle.replica_dir.specs.Ids.{is_id, is_path}
use Rattle.replica_views.specs.Ids.{id_at, id_of}
use Rattle.replica_history.specs.declared.deeds.Made.{Made}

-- ---- refs to what is held

abbrev pub PointsAtHeld : History → Ref → Type 0
PointsAtHeld history (Here index) = Unit {0}
PointsAtHeld history (There name index) = is_held history name ≡ true

abbrev pub ParentIsHeld : History → Parent → Type 0
ParentIsHeld history Root = Unit {0}
ParentIsHeld history (After place) = PointsAtHeld history place

-- the refs of an operation point at its own change or at held ones
abbrev pub RefsAreHeld : History → Op → Type 0
RefsAreHeld history (Make path) = Unit {0}
RefsAreHeld history (Remove object) = PointsAtHeld history object
RefsAreHeld history (Insert object parent text) = PointsAtHeld history object × ParentIsHeld history parent
RefsAreHeld history (Delete object first count) = PointsAtHeld history object × PointsAtHeld history first

-- ---- makes, and the objects that are touched

-- the object that an operation makes with its path, where the change of this name is at this index
abbrev pub made_of : History → Name → ℕ → Op → List Made
made_of history name index (Make path) = record { object = id_at history name index; path = path } ∷ []
made_of history name index (Remove object) = []
made_of history name index (Insert object parent text) = []
made_of history name index (Delete object first count) = []

-- the objects that operations make, from an index of their change on
abbrev pub made_from : History → Name → ℕ → List Op → List Made
made_from history name index [] = []
made_from history name index (op ∷ ops) = made_of history name index op ++ made_from history name (index + length (things_of op)) ops

-- the object that an operation makes, removes or writes to
abbrev pub object_of : History → Name → ℕ → Op → ElemId
object_of history name index (Make path) = id_at history name index
object_of history name index (Remove object) = id_of history name object
object_of history name index (Insert object parent text) = id_of history name object
object_of history name index (Delete object first count) = id_of history name object

-- the objects that operations touch, each as often as they do
abbrev pub objects_from : History → Name → ℕ → List Op → List ElemId
objects_from history name index [] = []
objects_from history name index (op ∷ ops) = object_of history name index op ∷ objects_from history name (index + length (things_of op)) ops

-- whether the object is made at the path
abbrev pub is_make : List ℕ → ElemId → Made → Bool
is_make path object made = is_path made.path path && is_id made.object object

-- whether one of these makes is of the object at the path
abbrev pub has_make : List Made → List ℕ → ElemId → Bool
has_make makes path object = list_any (is_make path object) makes
