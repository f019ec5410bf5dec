use Rattle.std.proofs.Common.{◌≡◌, length, take}
use Rattle.change_graph.specs.Refusals.{things}
use Rattle.change_graph.specs.Starts.{AreStarts}
use Rattle.change_graph.proofs.starts.starts_of.Given as goal

abbrev pub invariant-loop-op : goal.invariant-loop-op
invariant-loop-op l = record {
  all : length l.starts.items ≡ l.op-index;
  next : l.start ≡ length (things (take l.op-index l.ops));
  exact : AreStarts l.ops l.starts.items;
}
