use Rattle.std.proofs.lemmas.List.{take_rest}
use Rattle.replay.proofs.Writes.{wrote_more}
use Rattle.replay.proofs.player.write_all.Goals as goal

pub loop-rest-preserved : goal.loop-rest-preserved
loop-rest-preserved g c = rw take_rest (wrote_more _ _ _ _ _ _ c.loop-rest.invariant c.in-Bytes.ensures.gives)
