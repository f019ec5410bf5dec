use Rattle.daemon_events.proofs.ServeLemmas.{records_stay, changes_stay}
use Rattle.daemon_events.proofs.laws.what_is_held_stays.Goals as goal

pub returns-clause-records : goal.returns-clause-records
returns-clause-records c = records_stay

pub returns-clause-changes : goal.returns-clause-changes
returns-clause-changes c = changes_stay
