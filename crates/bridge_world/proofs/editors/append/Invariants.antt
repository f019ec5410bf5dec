use Rattle.std.proofs.Common.{◌≡◌, ◌++◌, take, map}
use Rattle.editor_bridge.specs.declared.frames.BridgeFrame.{BridgeFrame}
use Rattle.bridge_world.specs.Counted.{new_frame}
use Rattle.bridge_world.proofs.editors.append.Given as goal

abbrev pub invariant-loop-frame : goal.invariant-loop-frame
invariant-loop-frame l = l.wire ≡ l.fn.wire ++ map (λ (f : BridgeFrame). new_frame l.session f.revision f.delta) (take l.frame-index l.again)
