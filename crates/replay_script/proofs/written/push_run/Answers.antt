use Rattle.std.proofs.Common.{◌∙◌}
use Rattle.std.specs.Prelude.{string_bytes}
use Rattle.replay_script.proofs.EscapeLemmas.{run_written}
use Rattle.replay_script.proofs.written.push_run.Goals as goal

pub loop-ch-preserved : goal.loop-ch-preserved
loop-ch-preserved c =
    c.in_ok-push_escaped.ensures
    ∙ run_written c.args.run.now (string_bytes c.loop-ch.out) (string_bytes c.args.out.now) c.loop-ch.ch-index c.ch-item.result c.loop-ch-test.true c.ch-item.is c.loop-ch.invariant
