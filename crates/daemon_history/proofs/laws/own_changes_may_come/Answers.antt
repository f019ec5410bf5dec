use Rattle.daemon_history.proofs.OwnLemmas.{own_made_may_come, own_removed_may_come}
use Rattle.daemon_history.proofs.laws.own_changes_may_come.Goals as goal

pub returns : goal.returns
returns c = record { made = own_made_may_come; removed = own_removed_may_come }
