use Rattle.replica_views.proofs.HeadsLemmas.{own_is_new}
use Rattle.replica_views.proofs.laws.own_changes_are_new.Goals as goal

pub returns : goal.returns
returns c = own_is_new
