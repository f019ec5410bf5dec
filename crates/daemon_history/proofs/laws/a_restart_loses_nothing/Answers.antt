use Rattle.daemon_history.proofs.HoldingLemmas.{restarted}
use Rattle.daemon_history.proofs.laws.a_restart_loses_nothing.Goals as goal

pub returns : goal.returns
returns c = restarted
