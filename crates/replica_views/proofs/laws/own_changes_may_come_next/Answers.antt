use Rattle.replica_views.proofs.NextLemmas.{made_comes, removed_comes}
use Rattle.replica_views.proofs.laws.own_changes_may_come_next.Goals as goal

pub returns : goal.returns
returns c = record { made = made_comes; removed = removed_comes }
