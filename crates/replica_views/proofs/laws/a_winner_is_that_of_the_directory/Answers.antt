use Rattle.replica_views.proofs.DirectoryLemmas.{winner_is}
use Rattle.replica_views.proofs.laws.a_winner_is_that_of_the_directory.Goals as goal

pub returns : goal.returns
returns c = winner_is
