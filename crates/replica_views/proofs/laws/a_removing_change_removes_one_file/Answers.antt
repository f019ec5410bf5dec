use Rattle.replica_views.proofs.RemovedLemmas.{removed_only}
use Rattle.replica_views.proofs.laws.a_removing_change_removes_one_file.Goals as goal

pub returns : goal.returns
returns c = removed_only
