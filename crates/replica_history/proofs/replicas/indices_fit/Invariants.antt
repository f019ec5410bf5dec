use Rattle.std.proofs.Common.{◌≡◌, ◌+◌, ◌<◌, ◌^◌, length, drop}
use Rattle.change_graph.specs.Refusals.{things}
use Rattle.replica_history.proofs.replicas.indices_fit.Given as goal

abbrev pub invariant-loop-op : goal.invariant-loop-op
invariant-loop-op l = record {
  all : l.op-items ≡ l.change.ops;
  indices : l.count + length (things (drop l.op-index l.op-items)) ≡ length (things l.op-items);
  small : l.count < 2 ^ 64;
}
