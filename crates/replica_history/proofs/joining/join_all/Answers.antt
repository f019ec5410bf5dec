use Rattle.std.proofs.Common.{get_or, refl, arith}
use Rattle.replica_history.specs.Groups.{group_at}
use Rattle.replica_history.specs.Texts.{kept_at}
use Rattle.replica_history.specs.Joins.{delta_at}
use Rattle.replica_history.proofs.JoinLemmas.{any_id, joined_next, told_next}
use Rattle.replica_history.proofs.joining.join_all.Goals as goal

pub loop-object-preserved : goal.loop-object-preserved
loop-object-preserved c = record {
  joined = joined_next (kept_at c.args.texts.now) (kept_at c.loop-object.texts) (kept_at c.join_once.new.texts) (group_at c.args.groups.now)
      (delta_at c.loop-object.deltas.entries) (delta_at c.join_once.new.deltas.entries) (get_or c.args.objects.now c.loop-object.object-index any_id)
      c.in_ok-join_once.ensures.joined c.in_ok-join_once.ensures.texts c.in_ok-join_once.ensures.deltas c.loop-object.invariant.joined;
  told = told_next (kept_at c.args.texts.now) (kept_at c.loop-object.texts) (kept_at c.join_once.new.texts) (group_at c.args.groups.now)
      (delta_at c.loop-object.deltas.entries) (delta_at c.join_once.new.deltas.entries) (get_or c.args.objects.now c.loop-object.object-index any_id)
      c.in_ok-join_once.ensures.joined c.in_ok-join_once.ensures.texts c.in_ok-join_once.ensures.deltas c.loop-object.invariant.joined
      c.args.objects.now c.loop-object.object-index any_id (omega arith) refl c.loop-object.invariant.told;
}
