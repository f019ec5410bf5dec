use Rattle.std.proofs.Common.{arith}
use Rattle.replay.proofs.Pieced.{pending_inner, pieced_on, piece_stops}
use Rattle.replay.proofs.playing.play_pieces.Goals as goal

pub play_piece-requires-clause-begun : goal.play_piece-requires-clause-begun
play_piece-requires-clause-begun g c = pending_inner _ _ _ _ _ _ c.loop-taken.invariant

pub loop-taken-preserved : goal.loop-taken-preserved
loop-taken-preserved g c =
    pieced_on _ _ _ _ _ _ _ c.loop-taken.invariant c.read_piece.new.buf c.in-Bytes.count c.in-Bytes.ensures.takes (omega (arith, c.in-Bytes.ensures.within)) _ _
    c.in_ok-play_piece-in-Bytes.ensures

pub returns-in_err-play_piece-in-Bytes : goal.returns-in_err-play_piece-in-Bytes
returns-in_err-play_piece-in-Bytes g c =
    piece_stops _ _ _ _ _ _ _ c.loop-taken.invariant c.read_piece.new.buf c.in-Bytes.count c.in-Bytes.ensures.takes (omega (arith, c.in-Bytes.ensures.within)) _ _ _ _
    c.from_residual.ensures.1 c.in_err-play_piece-in-Bytes.ensures
