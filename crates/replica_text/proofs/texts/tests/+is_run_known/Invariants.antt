use Rattle.replica_text.proofs.texts.tests.+is_run_known.Given as goal

abbrev pub decreases-is_run_known : goal.decreases-is_run_known
decreases-is_run_known g l = l.count
