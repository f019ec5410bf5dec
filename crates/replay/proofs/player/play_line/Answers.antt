use Rattle.std.proofs.Common.{sym, subst}
use Rattle.replay.specs.Ending.{PlaysLine}
use Rattle.replay.proofs.LineEnds.{err_is, line_not_played, line_written}
use Rattle.replay.proofs.player.play_line.Goals as goal

pub returns-in_err-printed : goal.returns-in_err-printed
returns-in_err-printed g c =
    let m = g.K.Sink.meaning c.args.out.now in
    subst (λ r. PlaysLine c.args.world.now c.play_bytes.new.world m m c.args.line.now r) (sym (err_is c.from_residual.result c.in_err-printed.field-0.0 c.from_residual.ensures.1))
    (line_not_played c.args.world.now c.play_bytes.new.world m c.args.line.now c.in_err-printed.field-0.0 c.in_err-printed.ensures)

pub returns : goal.returns
returns g c = line_written _ _ _ _ _ _ _ _ c.as_bytes.ensures.value c.in_ok-printed.ensures c.write_all.ensures.counts c.write_all.ensures.wrote c.write_all.ensures.some
