use Rattle.std.proofs.Common.{◌≡◌, None, true, take}
use Rattle.tt_base.specs.declared.ids.ElemId.{ElemId}
use Rattle.replica_dir.specs.Ids.{has_id}
use Rattle.replica_history.specs.Groups.{group_at}
use Rattle.replica_history.specs.Texts.{kept_at}
use Rattle.replica_history.specs.Joins.{IsJoinedIfTold, delta_at}
use Rattle.replica_history.proofs.joining.join_all.Given as goal

abbrev pub invariant-loop-object : goal.invariant-loop-object
invariant-loop-object l = record {
  joined : (q : ElemId) → IsJoinedIfTold (kept_at l.fn.texts q) (group_at l.groups q) (kept_at l.texts q) (delta_at l.deltas.entries q);
  told : (q : ElemId) → delta_at l.deltas.entries q ≡ None → has_id (take l.object-index l.objects) q ≡ true → kept_at l.fn.texts q ≡ None;
}
