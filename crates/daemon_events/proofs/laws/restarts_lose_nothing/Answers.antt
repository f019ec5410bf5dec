use Rattle.daemon_events.proofs.ServeLemmas.{restarts}
use Rattle.daemon_events.proofs.laws.restarts_lose_nothing.Goals as goal

pub returns : goal.returns
returns c = restarts
