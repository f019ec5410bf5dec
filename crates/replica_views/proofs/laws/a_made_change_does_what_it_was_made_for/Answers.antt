use Rattle.replica_views.proofs.MadeLemmas.{made_does_only}
use Rattle.replica_views.proofs.laws.a_made_change_does_what_it_was_made_for.Goals as goal

pub returns : goal.returns
returns c = made_does_only
