use Rattle.std.proofs.Common.{List, ℕ, ◌++◌, Ok, Err, refl, subst}
use Rattle.replay.specs.Ending.{PlaysLine}
use Rattle.replay.proofs.Pieces.{EndsLine, played_on, piece_ended, piece_begun, line_not_kept, rest_not_kept}
use Rattle.replay.proofs.player.play_piece.Goals as goal

pub returns-in_err-extend_from_slice : goal.returns-in_err-extend_from_slice
returns-in_err-extend_from_slice g c =
    let ends : EndsLine c.loop-line.rest.now c.in-Some.line.now c.in-Some.after.now = record { cut = c.in-Some.ensures.0; inner = c.in-Some.ensures.1 } in
    line_not_kept _ _ _ _ _ _ _ _ _ _ c.from_residual.ensures.1 c.loop-line.invariant ends refl

pub loop-line-preserved : goal.loop-line-preserved
loop-line-preserved g c =
    let ends : EndsLine c.loop-line.rest.now c.in-Some.line.now c.in-Some.after.now = record { cut = c.in-Some.ensures.0; inner = c.in-Some.ensures.1 } in
    let Plays : List ℕ → Type 0 = λ line. PlaysLine c.loop-line.player.world c.end_line.new.player.world (g.K.Sink.meaning c.loop-line.out) (g.K.Sink.meaning c.end_line.new.out) line (Ok tt) in
    played_on _ _ _ _ _ _ _ _ _ _ c.loop-line.invariant ends (subst Plays {y = c.loop-line.player.pending.items ++ c.in-Some.line.now} c.in_ok-extend_from_slice.ensures.items c.in_ok-end_line.ensures.plays) c.in_ok-end_line.ensures.line
    c.in_ok-end_line.ensures.pending

pub returns-in_err-end_line : goal.returns-in_err-end_line
returns-in_err-end_line g c =
    let ends : EndsLine c.loop-line.rest.now c.in-Some.line.now c.in-Some.after.now = record { cut = c.in-Some.ensures.0; inner = c.in-Some.ensures.1 } in
    let Plays : List ℕ → Type 0 =
    λ line. PlaysLine c.loop-line.player.world c.end_line.new.player.world (g.K.Sink.meaning c.loop-line.out) (g.K.Sink.meaning c.end_line.new.out) line (Err c.in_err-end_line.field-0.0) in
    piece_ended _ _ _ _ _ _ _ _ _ _ _ _ c.from_residual-in_err-end_line.ensures.1 c.loop-line.invariant ends
    (subst Plays {y = c.loop-line.player.pending.items ++ c.in-Some.line.now} c.in_ok-extend_from_slice.ensures.items c.in_err-end_line.ensures.plays) c.in_err-end_line.ensures.line

pub returns-in_err-extend_from_slice-2 : goal.returns-in_err-extend_from_slice-2
returns-in_err-extend_from_slice-2 g c =
    rest_not_kept _ _ _ _ _ _ _ c.loop-line.invariant c.in_default.ensures refl _ c.from_residual-in_err-extend_from_slice-2.ensures.1

pub returns : goal.returns
returns g c = piece_begun _ _ _ _ _ _ _ c.loop-line.invariant c.in_default.ensures refl refl c.in_ok-extend_from_slice-2.ensures.items
