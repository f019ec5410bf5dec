-- What is read so far is the bodies and then what is held.
use Rattle.std.proofs.Common.{◌≤◌, ◌-◌, ◌++◌, length, take}
use Rattle.rpc_frame.specs.Held.{held_bytes, IsHeld}
use Rattle.rpc_frame.specs.Stream.{Begun, Reads}
use Rattle.rpc_frame.proofs.begun.FrameBegun.read.Given as goal

abbrev pub invariant-loop-at : goal.invariant-loop-at
invariant-loop-at l = record {
  within : l.at ≤ length l.piece;
  held : IsHeld l.limit l.self;
  read : Reads l.limit (held_bytes l.fn.self ++ take l.at l.piece) l.done.items (Begun (held_bytes l.self));
}

abbrev pub decreases-loop-at : goal.decreases-loop-at
decreases-loop-at l = length l.piece - l.at
