use Rattle.std.proofs.Common.{length}
use Rattle.replay.proofs.Pieces.{PlayedTo}
use Rattle.replay.proofs.player.play_piece.Given as goal

abbrev pub invariant-loop-line : goal.invariant-loop-line
invariant-loop-line g l = PlayedTo l.initial.player l.player (g.K.Sink.meaning l.initial.out) (g.K.Sink.meaning l.out) l.piece l.rest

abbrev pub decreases-loop-line : goal.decreases-loop-line
decreases-loop-line g l = length l.rest
