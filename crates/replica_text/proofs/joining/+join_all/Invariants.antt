use Rattle.std.proofs.Common.{length}
use Rattle.replica_text.proofs.joining.+join_all.Given as goal

abbrev pub decreases-join_all : goal.decreases-join_all
decreases-join_all g l = length l.ops.now
