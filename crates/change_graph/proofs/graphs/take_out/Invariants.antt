use Rattle.std.proofs.Common.{◌≡◌, ◌&&◌, not, take}
use Rattle.std.specs.List.Sorted.{IsStrictlySortedBy}
use Rattle.tt_base.specs.Ids.{name_cmp}
use Rattle.tt_base.specs.declared.ids.Name.{Name}
use Rattle.change_graph.specs.History.{has_name}
use Rattle.change_graph.proofs.graphs.take_out.Given as goal

abbrev pub invariant-loop-name : goal.invariant-loop-name
invariant-loop-name l = record {
  members : (q : Name) → has_name l.heads.keys q ≡ (has_name l.initial.heads.keys q && not (has_name (take l.name-index l.taken) q));
  rising : IsStrictlySortedBy name_cmp l.initial.heads.keys → IsStrictlySortedBy name_cmp l.heads.keys;
}
