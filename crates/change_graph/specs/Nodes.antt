-- The map that a graph keeps.
use Rattle.std.specs.Prelude.{◌≡◌, ℕ, ◌≤◌, List, length, is_some, unwrap_or}
use Rattle.std.specs.Map.{lookup}
use Rattle.tt_base.specs.declared.ids.Name.{Name}
use Rattle.change_graph.specs.History.{History, is_name, is_held}
use Rattle.change_graph.specs.Depths.{IsDepths}
use Rattle.change_graph.specs.Histories.{IsClosed}

-- the held changes and, beside them, their depths
pub record NodesView : Type 0 where
  pub history : History
  pub depths : List (Name × ℕ)

-- the depth that stands beside the change, and 0 where there is none
abbrev pub depth_in : List (Name × ℕ) → Name → ℕ
depth_in depths name = unwrap_or (lookup (is_name name) depths) 0

-- The changes are closed, and the depths are theirs.
pub record IsDeep (nodes : NodesView) : Type 0 where
  pub closed : IsClosed nodes.history
  pub paired : (name : Name) → is_some (lookup (is_name name) nodes.depths) ≡ is_held nodes.history name
  pub are_depths : IsDepths nodes.history (depth_in nodes.depths)
  pub few : (name : Name) → depth_in nodes.depths name ≤ length nodes.history
