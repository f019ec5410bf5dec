use Rattle.std.proofs.Common.{◌≡◌, ◌++◌, take, drop, map}
use Rattle.bridge_world.specs.Counted.{aged_frame}
use Rattle.bridge_world.proofs.editors.age_all.Given as goal

abbrev pub invariant-loop-frame : goal.invariant-loop-frame
invariant-loop-frame l = l.frame-items ≡ map aged_frame (take l.frame-index l.fn.frames.items) ++ drop l.frame-index l.fn.frames.items
