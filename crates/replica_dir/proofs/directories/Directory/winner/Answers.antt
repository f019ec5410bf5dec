use Rattle.replica_dir.proofs.WinnerLemmas.{found_wins}
use Rattle.replica_dir.proofs.directories.Directory.winner.Goals as goal

pub returns-in-Some : goal.returns-in-Some
returns-in-Some c =
    rw (← c.self.view_is)
    (found_wins _ c.args.path.now _ _ c.in-Some.ensures.value c.greatest_outside.ensures.rising c.greatest_outside.ensures.last)
