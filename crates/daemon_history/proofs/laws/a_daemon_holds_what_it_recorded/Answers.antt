use Rattle.daemon_history.proofs.HoldingLemmas.{holding_started, holding_changed, holding_noted, holding_grown}
use Rattle.daemon_history.proofs.laws.a_daemon_holds_what_it_recorded.Goals as goal

pub returns : goal.returns
returns c = record { started = holding_started; changes = holding_changed; notes = holding_noted; grown = holding_grown }
