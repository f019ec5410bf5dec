use Rattle.replica_dir.proofs.WinnerLemmas.{same_winner}
use Rattle.replica_dir.proofs.laws.equal_events_have_equal_winners.Goals as goal

pub returns : goal.returns
returns c = same_winner
