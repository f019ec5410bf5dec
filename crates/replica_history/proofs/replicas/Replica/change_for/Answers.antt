use Rattle.std.proofs.Common.{◌≡◌, sym, subst, length, Some, None, IsTrue}
use Rattle.std.proofs.lemmas.Result.{IfOk-weaker}
use Rattle.delta.specs.Cells.{base_length}
use Rattle.replica_views.specs.Views.{text_at}
use Rattle.replica_history.specs.Replica.{ReplicaView}
use Rattle.replica_history.proofs.MakingLemmas.{winner_read, never_absent, base_read, base_absent}
use Rattle.replica_history.proofs.replicas.Replica.change_for.Goals as goal

pub creating-requires-clause-absent : goal.creating-requires-clause-absent
creating-requires-clause-absent c =
    let kept = c.self.invariant (subst (λ (v : ReplicaView). IsTrue v.live) (sym c.self.view_is) c.requires.live) in
    winner_read c.self.inside.graph c.self.inside.directory c.self.inside.texts kept.readings c.args.path.now None c.in_default.ensures

pub creating-requires-clause-base : goal.creating-requires-clause-base
creating-requires-clause-base c =
    let kept = c.self.invariant (subst (λ (v : ReplicaView). IsTrue v.live) (sym c.self.view_is) c.requires.live) in
    base_absent c.self.inside.graph c.self.inside.directory c.self.inside.texts kept.readings c.args.path.now c.args.d.now
    (subst (λ (v : ReplicaView). base_length c.args.d.now ≡ length (text_at v.history c.args.path.now)) (sym c.self.view_is) c.requires.base)
    c.in_default.ensures

pub unreachable-requires : goal.unreachable-requires
unreachable-requires c =
    let kept = c.self.invariant (subst (λ (v : ReplicaView). IsTrue v.live) (sym c.self.view_is) c.requires.live) in
    never_absent c.self.inside.graph c.self.inside.directory c.self.inside.texts kept.readings c.args.path.now c.in-Some.object c.in-Some.ensures
    c.in_default-object.ensures

pub changing-requires-clause-base : goal.changing-requires-clause-base
changing-requires-clause-base c =
    let kept = c.self.invariant (subst (λ (v : ReplicaView). IsTrue v.live) (sym c.self.view_is) c.requires.live) in
    base_read c.self.inside.graph c.self.inside.directory c.self.inside.texts kept.readings c.args.path.now c.args.d.now
    (subst (λ (v : ReplicaView). base_length c.args.d.now ≡ length (text_at v.history c.args.path.now)) (sym c.self.view_is) c.requires.base)
    c.in-Some.object c.in-Some.ensures c.in-Some-object.text.now c.in-Some-object.ensures

pub returns : goal.returns
returns c =
    let kept = c.self.invariant (subst (λ (v : ReplicaView). IsTrue v.live) (sym c.self.view_is) c.requires.live) in
    rw (← c.self.view_is)
    (IfOk-weaker c.changing.result _ _
    (λ change all.
    all c.args.path.now
    (winner_read c.self.inside.graph c.self.inside.directory c.self.inside.texts kept.readings c.args.path.now (Some c.in-Some.object) c.in-Some.ensures))
    c.changing.ensures)
