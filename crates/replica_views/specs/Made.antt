-- The change that a daemon makes for a delta of the text at a path, and the one that it removes a file by.
use Rattle.std.specs.Prelude.{ℕ, ◌+◌, Bool, not, List, [], ◌∷◌, map, Option, Some, None, if◌then◌else◌}
use Rattle.std.specs.List.{filter, list_any, count_by}
use Rattle.std.specs.BTreeMap.{is_at}
use Rattle.std.specs.Map.{keys_of}
use Rattle.delta.specs.Cells.{Cells}
use Rattle.tt_base.specs.Ids.{actor_cmp}
use Rattle.tt_base.specs.declared.ids.Name.{Name}
use Rattle.tt_base.specs.declared.ids.Actor.{Actor}
use Rattle.tt_base.specs.declared.ids.ElemId.{ElemId}
use Rattle.tt_base.specs.declared.text_ops.TextOp.{TextOp}
use Rattle.tt_base.specs.declared.text_ops.TextOp.TheVariants as on_text
use Rattle.change_codec.specs.Change.{Change}
use Rattle.change_codec.specs.declared.ops.Ref.{Ref}
use Rattle.change_codec.specs.declared.ops.Ref.TheVariants.{Here, There}
use Rattle.change_codec.specs.declared.ops.Parent.{Parent}
use Rattle.change_codec.specs.declared.ops.Parent.TheVariants.{Root, After}
use Rattle.change_codec.specs.declared.ops.Op.{Op}
use Rattle.change_codec.specs.declared.ops.Op.TheVariants.{Make, Remove, Insert, Delete}
use Rattle.change_graph.specs.History.{History, has_name, with_change}
use Rattle.replica_text.specs.Ids.{less, same}
use Rattle.replica_text.specs.Made.{made_ops}
use Rattle.replica_views.specs.Ids.{depth_above}
use Rattle.replica_views.specs.Objects.{live_at, winner_at}
use Rattle.replica_views.specs.Texts.{elements_of}

-- ---- what every own change has

-- whether some held change has the name as a dependency
abbrev pub is_dep : History → Name → Bool
is_dep history name = list_any (λ (held : Name × Change). has_name held.1.deps name) history

-- the heads: the held names that no held change has as a dependency, rising
unfoldable pub heads_of : History → List Name
heads_of history = filter (λ name. not (is_dep history name)) (keys_of history)

abbrev pub is_made_by : Actor → Name × Change → Bool
is_made_by actor held = is_at (actor_cmp actor) held.1.actor

-- the number of the next change of a daemon: 1 more than the number of its changes that are held
abbrev pub next_seq : History → Actor → ℕ
next_seq history actor = count_by (is_made_by actor) history + 1

-- a daemon's next change, which knows all that is held
abbrev pub own_change : History → Actor → List Op → Change
own_change history actor ops = record { actor = actor; seq = next_seq history actor; deps = heads_of history; ops = ops }

-- ---- operations of a made change

-- a ref to what an earlier change made
abbrev pub ref_to : ElemId → Ref
ref_to id = There id.name id.index

abbrev pub parent_to : Option ElemId → Parent
parent_to None = Root
parent_to (Some id) = After (ref_to id)

-- an operation on the text of an object, as a change writes it; parents and deleted characters are of earlier changes
abbrev pub written_op : Ref → TextOp → Op
written_op object (on_text.Insert first parent text) = Insert object (parent_to parent) text
written_op object (on_text.Delete first count) = Delete object (ref_to first) count

-- the first new id of a change that is being made, at an index; it has no name yet, and what is written does not show it
abbrev pub next_id_at : History → Actor → ℕ → ElemId
next_id_at history actor index =
    record { depth = depth_above history (heads_of history); actor = actor; name = record { 0 = [] }; index = index }

-- the operations of a change that makes the delta: where there is no file, a make stands first, and is the object
abbrev pub ops_for : History → Actor → List ℕ → Cells → Option ElemId → List Op
ops_for history actor path d None = Make path ∷ map (written_op (Here 0)) (made_ops [] d (next_id_at history actor 1))
ops_for history actor path d (Some object) =
    map (written_op (ref_to object)) (made_ops (elements_of history object) d (next_id_at history actor 0))

-- the change that a daemon makes for a delta of the text at a path
unfoldable pub made : History → Actor → List ℕ → Cells → Change
made history actor path d = own_change history actor (ops_for history actor path d (winner_at history path))

-- the history with the change that the daemon makes
abbrev pub with_made : History → Actor → List ℕ → Cells → History
with_made history actor path d = with_change history (made history actor path d)

-- ---- removing a file

-- an id among others in rising order, where it is not there already
abbrev pub with_id : ElemId → List ElemId → List ElemId
with_id id [] = id ∷ []
with_id id (other ∷ ids) =
    if less other id then other ∷ with_id id ids else (if same other id then other ∷ ids else id ∷ (other ∷ ids))

-- the ids, each once, in rising order
abbrev pub rising_ids : List ElemId → List ElemId
rising_ids [] = []
rising_ids (id ∷ ids) = with_id id (rising_ids ids)

-- an operation that removes an object
abbrev pub removal : ElemId → Op
removal id = Remove (ref_to id)

-- the change that removes each live object of the path, in rising order of their ids
unfoldable pub removed : History → Actor → List ℕ → Change
removed history actor path = own_change history actor (map removal (rising_ids (live_at history path)))
