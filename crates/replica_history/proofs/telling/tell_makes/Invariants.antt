use Rattle.std.proofs.Common.{◌≡◌, ℕ, List, ◌||◌, drop}
use Rattle.tt_base.specs.declared.ids.ElemId.{ElemId}
use Rattle.replica_dir.specs.DirectoryView.{is_made}
use Rattle.replica_history.specs.Deeds.{has_make}
use Rattle.replica_history.proofs.telling.tell_makes.Given as goal

abbrev pub invariant-loop-made : goal.invariant-loop-made
invariant-loop-made l = record {
  makes : (path : List ℕ) (q : ElemId) → (has_make (drop l.made-index l.makes) path q || is_made l.directory path q)
      ≡ (has_make l.makes path q || is_made l.fn.directory path q);
  removes : l.directory.removes ≡ l.fn.directory.removes;
}
