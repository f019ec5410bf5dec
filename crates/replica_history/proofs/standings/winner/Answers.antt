use Rattle.replica_history.proofs.WinnerLemmas.{winner_found}
use Rattle.replica_history.proofs.standings.winner.Goals as goal

pub returns : goal.returns
returns c = winner_found c.args.directory.now c.args.path.now c.winner.result c.winner.ensures
