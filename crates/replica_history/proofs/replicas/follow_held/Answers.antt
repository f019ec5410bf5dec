use Rattle.std.proofs.lemmas.Result.{IfOk-weaker}
use Rattle.replica_history.proofs.ReplicaLemmas.{grown_there, held_there, next_of, few_there}
use Rattle.replica_history.proofs.replicas.follow_held.Goals as goal

pub held_id-own-requires-clause-grown : goal.held_id-own-requires-clause-grown
held_id-own-requires-clause-grown c =
    let n = c.requires in grown_there n.history n.change c.args.graph.now c.args.name.now c.args.directory.now c.args.texts.now n.is

pub held_id-own-requires-clause-held : goal.held_id-own-requires-clause-held
held_id-own-requires-clause-held c =
    let n = c.requires in held_there n.history n.change c.args.graph.now c.args.name.now c.args.directory.now c.args.texts.now n.is

pub follow-requires-clause-few : goal.follow-requires-clause-few
follow-requires-clause-few c =
    let n = c.requires in
    few_there n.history n.change c.args.graph.now c.args.name.now c.args.directory.now c.args.texts.now n.is c.in-Some.change.now c.ops.result.now c.in-Some.ensures
    c.ops.ensures

pub follow-requires-clause-next : goal.follow-requires-clause-next
follow-requires-clause-next c =
    let n = c.requires in
    record {
      history = n.history;
      change = n.change;
      is = next_of n.history n.change c.args.graph.now c.args.name.now c.args.directory.now c.args.texts.now n.is c.held_id-own.result c.in-Some.change.now
          c.ops.result.now c.held_id-own.ensures c.in-Some.ensures c.ops.ensures;
    }

pub returns-clause-effects : goal.returns-clause-effects
returns-clause-effects c =
    IfOk-weaker c.follow.result _ _
    (λ effects all history change is.
    all history change
    (next_of history change c.args.graph.now c.args.name.now c.args.directory.now c.args.texts.now is c.held_id-own.result c.in-Some.change.now c.ops.result.now
    c.held_id-own.ensures c.in-Some.ensures c.ops.ensures))
    c.follow.ensures.effects
