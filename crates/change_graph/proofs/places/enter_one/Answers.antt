use Rattle.change_graph.proofs.PlaceLemmas.{one_entered, one_absent}
use Rattle.change_graph.proofs.places.enter_one.Goals as goal

pub returns-in_ok-insert-in-Some : goal.returns-in_ok-insert-in-Some
returns-in_ok-insert-in-Some c =
    one_entered c.args.nodes.now c.args.name.now c.in-Some.depth c.args.places.now.keys c.insert.new.self.keys c.in-Some.ensures
    c.in_ok-insert-in-Some.ensures.updates.0

pub returns-in-None : goal.returns-in-None
returns-in-None c = one_absent c.args.nodes.now c.args.name.now c.args.places.now.keys c.in-None.ensures
