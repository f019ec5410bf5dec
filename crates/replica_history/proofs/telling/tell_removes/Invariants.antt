use Rattle.std.proofs.Common.{◌≡◌, ◌||◌, drop}
use Rattle.std.specs.List.{list_any}
use Rattle.tt_base.specs.declared.ids.ElemId.{ElemId}
use Rattle.replica_dir.specs.Ids.{is_id}
use Rattle.replica_dir.specs.DirectoryView.{is_removed}
use Rattle.replica_history.proofs.telling.tell_removes.Given as goal

abbrev pub invariant-loop-object : goal.invariant-loop-object
invariant-loop-object l = record {
  removes : (q : ElemId) → (list_any (λ id. is_id id q) (drop l.object-index l.removes) || is_removed l.directory q)
      ≡ (list_any (λ id. is_id id q) l.removes || is_removed l.fn.directory q);
  makes : l.directory.makes ≡ l.fn.directory.makes;
}
