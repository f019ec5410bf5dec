use Rattle.std.proofs.Common.{take}
use Rattle.outside_mem.specs.Replayed.{HasReplayed}
use Rattle.outside_mem.proofs.histories.replay.Given as goal

abbrev pub invariant-loop-place : goal.invariant-loop-place
invariant-loop-place l = HasReplayed l.began (take l.place l.entries) l.content.items l.begin
