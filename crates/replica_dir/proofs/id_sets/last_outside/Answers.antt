use Rattle.std.proofs.Common.{not}
use Rattle.std.specs.Map.Iter.{deref}
use Rattle.std.proofs.lemmas.Map.Iter.{rest_more}
use Rattle.replica_dir.specs.Ids.{has_id}
use Rattle.replica_dir.proofs.GreatestLemmas.{keeps_last_step}
use Rattle.replica_dir.proofs.id_sets.last_outside.Goals as goal

pub loop-id-preserved : goal.loop-id-preserved
loop-id-preserved c =
    keeps_last_step (λ id. not (has_id c.args.others.now.keys id)) c.in-Some.id.now c.loop-id.id-iterator c.next.new.self c.loop-id.kept
    c.kept_after-kept.result _
    (rest_more deref c.loop-id.id-iterator c.next.new.self c.next.result c.in-Some.id c.in-Some.is c.next.ensures.steps)
    c.kept_after-kept.ensures
    c.loop-id.invariant
