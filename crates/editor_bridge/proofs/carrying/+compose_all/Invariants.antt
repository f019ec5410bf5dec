use Rattle.std.proofs.Common.{length}
use Rattle.editor_bridge.proofs.carrying.+compose_all.Given as goal

abbrev pub decreases-compose_all : goal.decreases-compose_all
decreases-compose_all l = length l.deltas.now
