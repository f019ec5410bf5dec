use Rattle.daemon_core.proofs.RefusalLemmas.{always_serves}
use Rattle.daemon_core.proofs.ServeLemmas.{goes_on}
use Rattle.daemon_core.proofs.laws.links_lead_to_files.Goals as goal

pub returns-clause-step : goal.returns-clause-step
returns-clause-step c = goes_on

pub returns-clause-always : goal.returns-clause-always
returns-clause-always c = always_serves
