-- How the operations of a new change are surveyed.
use Rattle.std.specs.Prelude.{◌≡◌, ℕ, ◌<◌, List, Option, Some, None}
use Rattle.std.specs.List.{list_any}
use Rattle.change_codec.specs.declared.ops.Op.{Op}
use Rattle.change_codec.specs.declared.ops.Ref.{Ref}
use Rattle.change_graph.specs.declared.causes.Cause.{Cause}
use Rattle.change_graph.specs.declared.causes.OpFault.{OpFault}
use Rattle.change_graph.specs.declared.places.Place.{Place}
use Rattle.change_graph.specs.declared.survey.Sight.{Sight}
use Rattle.change_graph.specs.Nodes.{NodesView}
use Rattle.change_graph.specs.Refusals.{Scope, Thing, run_at, is_there, is_object, is_elsewhere}
use Rattle.change_graph.specs.Walk.{is_known}

-- what an operation may speak of, where all that is held is known but for what is at these places
abbrev pub scope_of : NodesView → List Place → List Op → Scope
scope_of nodes outside earlier = record { history = nodes.history; known = is_known nodes outside; earlier = earlier }

-- what is seen at the indices of a run
abbrev pub sight_at : (Ref → List Thing) → Ref → Ref → ℕ → Sight
sight_at within object place count = record {
  whole = is_there within place count;
  objects = list_any is_object (run_at within place count);
  others = list_any (is_elsewhere object) (run_at within place count);
}

-- an operation is refused for this cause, and none before it is, where the cause at each place is given
pub record IsFirstOf (fault : ℕ → Option Cause) (first : OpFault) : Type 0 where
  pub here : fault first.place ≡ Some first.cause
  pub none_before : (earlier : ℕ) → earlier < first.place → fault earlier ≡ None

-- the first operation that is refused, or none
abbrev pub IsSurveyed : (ℕ → Option Cause) → Option OpFault → Type 0
IsSurveyed fault None = (place : ℕ) → fault place ≡ None
IsSurveyed fault (Some first) = IsFirstOf fault first
