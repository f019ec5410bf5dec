use Rattle.std.proofs.Common.{◌-◌, ◌^◌}
use Rattle.replay.proofs.Pieced.{TakenTo}
use Rattle.replay.proofs.playing.play_pieces.Given as goal

abbrev pub invariant-loop-taken : goal.invariant-loop-taken
invariant-loop-taken g l =
    TakenTo (g.S.Source.meaning l.initial.source) (g.S.Source.meaning l.source) (g.K.Sink.meaning l.initial.out) (g.K.Sink.meaning l.out) l.player l.taken

abbrev pub decreases-loop-taken : goal.decreases-loop-taken
decreases-loop-taken g l = 2 ^ 40 - l.taken
