use Rattle.std.proofs.Common.{sym, ◌∙◌}
use Rattle.transform.proofs.GapLemmas.{daemon_by_gaps_is}
use Rattle.transform.proofs.transforms.pass_daemon.Goals as goal

pub returns-clause-gaps : goal.returns-clause-gaps
returns-clause-gaps c = c.in_ok-carried.ensures ∙ sym (daemon_by_gaps_is c.args.q.now c.args.p.now c.requires)
