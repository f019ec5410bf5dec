-- What names an object or a character: the change that made it, with its depth and its maker, and its index there.
use Rattle.std.specs.Prelude.{ℕ, zero, suc, ◌+◌, List, [], map, length, Option, Some, None}
use Rattle.tt_base.specs.declared.ids.Name.{Name}
use Rattle.tt_base.specs.declared.ids.Actor.{Actor}
use Rattle.tt_base.specs.declared.ids.ElemId.{ElemId}
use Rattle.change_codec.specs.Change.{Change}
use Rattle.change_codec.specs.declared.ops.Ref.{Ref}
use Rattle.change_codec.specs.declared.ops.Ref.TheVariants.{Here, There}
use Rattle.change_graph.specs.History.{History, change_at, deps_at}
use Rattle.change_graph.specs.Depths.{greatest}

-- the depth of a change, as far as it is found in so many steps back: 1 more than the greatest depth among its dependencies
abbrev pub depth_within : ℕ → History → Name → ℕ
depth_within zero history name = 0
depth_within (suc steps) history name = greatest (map (depth_within steps history) (deps_at history name)) + 1

-- The depth of a held change (Lamport, 1978). No way back has more steps than there are changes.
unfoldable pub depth_at : History → Name → ℕ
depth_at history name = depth_within (length history) history name

-- the depth of a change with these dependencies
abbrev pub depth_above : History → List Name → ℕ
depth_above history deps = greatest (map (depth_at history) deps) + 1

abbrev pub maker : Option Change → Actor
maker None = record { 0 = [] }
maker (Some change) = change.actor

-- the daemon that made the held change, and no one where none is held
abbrev pub maker_at : History → Name → Actor
maker_at history name = maker (change_at history name)

-- what the change of this name made at an index
abbrev pub id_at : History → Name → ℕ → ElemId
id_at history name index = record { depth = depth_at history name; actor = maker_at history name; name = name; index = index }

-- what a ref points at that stands in the change of this name
abbrev pub id_of : History → Name → Ref → ElemId
id_of history name (Here index) = id_at history name index
id_of history name (There other index) = id_at history other index
