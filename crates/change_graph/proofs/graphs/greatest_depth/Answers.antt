use Rattle.std.proofs.Common.{ℕ, ◌≤◌, sym, ap, ◌∙◌, subst, take, length, Option, unwrap_or, arith}
use Rattle.change_graph.proofs.GraphLemmas.{greatest_more, greatest_few}
use Rattle.change_graph.proofs.graphs.greatest_depth.Goals as goal

pub loop-name-preserved : goal.loop-name-preserved
loop-name-preserved c =
    greatest_more c.args.nodes.now.depths c.args.names.now c.loop-name.name-index _ c.loop-name.most c.unwrap_or.result c.max-most.result
    (omega arith) c.loop-name.invariant (c.unwrap_or.ensures ∙ ap (λ (o : Option ℕ). unwrap_or o 0) c.depth.ensures) c.max-most.ensures

pub returns-clause-small : goal.returns-clause-small
returns-clause-small c =
    let few : c.loop-name.most ≤ length c.args.nodes.now.history =
    subst (λ (n : ℕ). n ≤ length c.args.nodes.now.history) (sym c.loop-name.invariant)
    (greatest_few c.args.nodes.now c.requires (take c.loop-name.name-index c.args.names.now)) in
    omega (arith, few, c.count-count.ensures.count, c.count-count.ensures.small)
