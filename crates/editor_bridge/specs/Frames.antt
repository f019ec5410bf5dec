-- The frames of a daemon's deltas.
use Rattle.std.specs.Prelude.{ℕ, List, map}
use Rattle.delta.specs.Cells.{Cells}
use Rattle.editor_bridge.specs.declared.frames.BridgeFrame.{BridgeFrame}

-- a frame for each of the deltas, in order, with one revision
abbrev pub frames : ℕ → List Cells → List BridgeFrame
frames revision deltas = map (λ d. record { revision = revision; delta = d }) deltas
