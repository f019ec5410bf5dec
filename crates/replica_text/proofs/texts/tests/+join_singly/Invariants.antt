use Rattle.std.proofs.Common.{length}
use Rattle.replica_text.proofs.texts.tests.+join_singly.Given as goal

abbrev pub decreases-join_singly : goal.decreases-join_singly
decreases-join_singly l = length l.ops.now
