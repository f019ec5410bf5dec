-- Operations on texts, by the object that they are on.
use Rattle.std.specs.Prelude.{List, []}
use Rattle.std.specs.Option.{unwrap_or}
use Rattle.std.specs.Map.{lookup}
use Rattle.tt_base.specs.declared.ids.ElemId.{ElemId}
use Rattle.tt_base.specs.declared.text_ops.TextOp.{TextOp}
use Rattle.replica_dir.specs.Ids.{is_id}

-- each object with its operations, in the order of the ids
abbrev pub GroupsView : Type 0
GroupsView = List (ElemId × List TextOp)

-- the operations on an object, in order
abbrev pub group_at : GroupsView → ElemId → List TextOp
group_at groups object = unwrap_or (lookup (is_id object) groups) []
