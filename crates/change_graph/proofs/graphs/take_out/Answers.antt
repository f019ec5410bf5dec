use Rattle.std.proofs.Common.{arith}
use Rattle.change_graph.proofs.GraphLemmas.{taken_more}
use Rattle.change_graph.proofs.graphs.take_out.Goals as goal

pub loop-name-preserved : goal.loop-name-preserved
loop-name-preserved c = record {
  members = taken_more c.args.taken.now c.loop-name.name-index _ c.args.heads.now.keys c.loop-name.heads.keys c.remove.new.self.keys (omega arith)
      c.loop-name.invariant.members c.remove.ensures.updates.0;
  rising = λ sorted. c.remove.ensures.ordered;
}
