use Rattle.std.proofs.Common.{ap, refl, List, length, arith}
use Rattle.std.proofs.lemmas.List.{at_drop_all}
use Rattle.change_codec.specs.declared.ops.Op.{Op}
use Rattle.change_graph.specs.Refusals.{things}
use Rattle.replica_history.proofs.replicas.indices_fit.Goals as goal

pub returns : goal.returns
returns c =
    let rest = at_drop_all (λ (ops : List Op). length (things ops)) c.ops-op-items.result.now c.loop-op.op-index (omega arith) in
    let all = ap (λ (ops : List Op). length (things ops)) c.loop-op.invariant.all in
    ((λ yes. omega (arith, c.loop-op.invariant.indices, c.loop-op.invariant.small, rest, all)), (λ less. refl))
