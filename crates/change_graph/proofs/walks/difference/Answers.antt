use Rattle.change_graph.proofs.WalkLemmas.{walk_ends}
use Rattle.change_graph.proofs.walks.difference.Goals as goal

pub loop-wanted-smaller : goal.loop-wanted-smaller
loop-wanted-smaller c = (c.in_ok-step.ensures c.args.need.now c.args.have.now c.loop-wanted.invariant).1

pub loop-wanted-preserved : goal.loop-wanted-preserved
loop-wanted-preserved c = (c.in_ok-step.ensures c.args.need.now c.args.have.now c.loop-wanted.invariant).0

pub returns : goal.returns
returns c =
    rw c.into_found.ensures
    (walk_ends c.args.nodes.now c.args.need.now c.args.have.now c.loop-wanted.walk c.loop-wanted.invariant c.in_default.ensures)
