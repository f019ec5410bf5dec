use Rattle.daemon_events.proofs.ServeLemmas.{starts_serving, goes_on, always_serves}
use Rattle.daemon_events.proofs.laws.daemons_serve.Goals as goal

pub returns-clause-starts : goal.returns-clause-starts
returns-clause-starts c = starts_serving

pub returns-clause-step : goal.returns-clause-step
returns-clause-step c = goes_on

pub returns-clause-always : goal.returns-clause-always
returns-clause-always c = always_serves
