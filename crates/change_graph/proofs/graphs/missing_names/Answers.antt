use Rattle.std.proofs.Common.{arith}
use Rattle.change_graph.proofs.GraphLemmas.{missing_more}
use Rattle.change_graph.proofs.graphs.missing_names.Goals as goal

pub loop-name-preserved : goal.loop-name-preserved
loop-name-preserved c =
    missing_more c.args.nodes.now.history c.args.names.now c.loop-name.name-index _ c.loop-name.list.items c.note_missing.new.list.items
    (omega arith) c.loop-name.invariant c.in_ok-note_missing.ensures
