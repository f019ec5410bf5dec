use Rattle.std.proofs.Common.{sym, subst}
use Rattle.std.proofs.lemmas.Result.{IfOk-weaker}
use Rattle.change_graph.specs.Answers.{IsDifference}
use Rattle.change_graph.proofs.GraphLemmas.{difference_of}
use Rattle.change_graph.proofs.graphs.Graph.between.Goals as goal

pub returns : goal.returns
returns c =
    rw (← c.self.view_is)
    (IfOk-weaker c.names_of.result _ _
    (λ list is.
    subst (IsDifference c.self.inside.nodes.history c.args.need.now c.args.have.now) (sym is)
    (difference_of c.self.inside.nodes c.self.invariant.deep c.args.need.now c.args.have.now c.in_ok-found.found.keys c.in_ok-found.ensures
    c.names_of.ensures.rising))
    c.names_of.ensures.names)
