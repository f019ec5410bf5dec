use Rattle.std.proofs.Common.{length}
use Rattle.replay.proofs.Writes.{WroteAllBut}
use Rattle.replay.proofs.player.write_all.Given as goal

abbrev pub invariant-loop-rest : goal.invariant-loop-rest
invariant-loop-rest g l = WroteAllBut (g.K.Sink.meaning l.initial.out) (g.K.Sink.meaning l.out) l.bytes l.rest

abbrev pub decreases-loop-rest : goal.decreases-loop-rest
decreases-loop-rest g l = length l.rest
