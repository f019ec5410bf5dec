use Rattle.std.proofs.Common.{◌∙◌, ap, sym, subst, List, ℕ, Some, IsTrue}
use Rattle.replica_history.specs.Replica.{ReplicaView}
use Rattle.replica_history.proofs.ReplicaLemmas.{view_some, view_none, has_file}
use Rattle.replica_history.proofs.replicas.Replica.view.Goals as goal

pub returns-in_ok-text-in-Some-clause-text : goal.returns-in_ok-text-in-Some-clause-text
returns-in_ok-text-in-Some-clause-text c =
    let kept = c.self.invariant (subst (λ (v : ReplicaView). IsTrue v.live) (sym c.self.view_is) c.requires) in
    rw (← c.self.view_is)
    (ap (λ (t : List ℕ). Some t) c.in_ok-text-in-Some.ensures
    ∙ view_some c.self.inside.graph c.self.inside.directory c.self.inside.texts kept.readings c.args.path.now c.in-Some.object c.in-Some.ensures)

pub returns-in_ok-text-in-Some-clause-absent : goal.returns-in_ok-text-in-Some-clause-absent
returns-in_ok-text-in-Some-clause-absent c =
    let kept = c.self.invariant (subst (λ (v : ReplicaView). IsTrue v.live) (sym c.self.view_is) c.requires) in
    rw (← c.self.view_is)
    (λ none. absurd (has_file c.self.inside.graph c.self.inside.directory c.self.inside.texts kept.readings c.args.path.now c.in-Some.object c.in-Some.ensures none))

pub returns-in_err-text-in-Some-clause-absent : goal.returns-in_err-text-in-Some-clause-absent
returns-in_err-text-in-Some-clause-absent c =
    let kept = c.self.invariant (subst (λ (v : ReplicaView). IsTrue v.live) (sym c.self.view_is) c.requires) in
    rw (← c.self.view_is)
    (λ none. absurd (has_file c.self.inside.graph c.self.inside.directory c.self.inside.texts kept.readings c.args.path.now c.in-Some.object c.in-Some.ensures none))

pub returns-in-None-clause-text : goal.returns-in-None-clause-text
returns-in-None-clause-text c =
    let kept = c.self.invariant (subst (λ (v : ReplicaView). IsTrue v.live) (sym c.self.view_is) c.requires) in
    rw (← c.self.view_is) (view_none c.self.inside.graph c.self.inside.directory c.self.inside.texts kept.readings c.args.path.now c.in-None.ensures)
