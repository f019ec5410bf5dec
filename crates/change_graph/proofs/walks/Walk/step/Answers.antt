use Rattle.change_graph.proofs.OrderLemmas.{up_to_up_to}
use Rattle.change_graph.proofs.walks.Walk.step.Goals as goal

pub pass-requires-clause-wanted : goal.pass-requires-clause-wanted
pass-requires-clause-wanted c =
    λ place has. up_to_up_to c.in-Some.covered c.args.wanted place c.in-Some.ensures.1 (c.requires.last.greatest place has)
