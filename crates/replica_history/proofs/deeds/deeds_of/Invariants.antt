use Rattle.std.proofs.Common.{◌≡◌, ◌+◌, ◌++◌, flat_map, length, drop}
use Rattle.tt_base.specs.declared.ids.ElemId.{ElemId}
use Rattle.change_graph.specs.Refusals.{things}
use Rattle.replica_views.specs.Objects.{removes_of}
use Rattle.replica_views.specs.Texts.{text_ops}
use Rattle.replica_history.specs.Deeds.{made_from, objects_from}
use Rattle.replica_history.specs.Groups.{group_at}
use Rattle.replica_history.proofs.deeds.deeds_of.Given as goal

abbrev pub invariant-loop-op : goal.invariant-loop-op
invariant-loop-op l = record {
  makes : l.deeds.makes ++ made_from l.graph l.own.name l.index (drop l.op-index l.ops) ≡ made_from l.graph l.own.name 0 l.ops;
  removes : l.deeds.removes ++ flat_map (removes_of l.graph l.own.name) (drop l.op-index l.ops) ≡ flat_map (removes_of l.graph l.own.name) l.ops;
  objects : l.deeds.objects ++ objects_from l.graph l.own.name l.index (drop l.op-index l.ops) ≡ objects_from l.graph l.own.name 0 l.ops;
  groups : (q : ElemId) → group_at l.deeds.groups q ++ text_ops l.graph l.own.name q l.index (drop l.op-index l.ops) ≡ text_ops l.graph l.own.name q 0 l.ops;
  indices : l.index + length (things (drop l.op-index l.ops)) ≡ length (things l.ops);
}
