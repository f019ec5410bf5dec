use Rattle.replica_text.proofs.deleting.+join_delete.Given as goal

abbrev pub decreases-join_delete : goal.decreases-join_delete
decreases-join_delete g l = l.count
