use Rattle.std.proofs.Common.{◌≡◌, take}
use Rattle.editor_bridge.specs.Frames.{frames}
use Rattle.editor_bridge.proofs.frames.frames_of.Given as goal

abbrev pub invariant-loop-delta : goal.invariant-loop-delta
invariant-loop-delta l = l.all.items ≡ frames l.revision (take l.delta-index l.deltas)
