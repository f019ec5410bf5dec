use Rattle.std.proofs.Common.{sym, subst, ◌∙◌, IsTrue}
use Rattle.std.proofs.lemmas.Result.{IfOk-weaker}
use Rattle.replica_history.specs.Replica.{ReplicaView}
use Rattle.replica_history.proofs.MakingLemmas.{live_read}
use Rattle.replica_history.proofs.replicas.Replica.removal_of.Goals as goal

pub returns : goal.returns
returns c =
    let kept = c.self.invariant (subst (λ (v : ReplicaView). IsTrue v.live) (sym c.self.view_is) c.requires) in
    rw (← c.self.view_is)
    (IfOk-weaker c.removing.result _ _
    (λ change all.
    all c.args.path.now
    (c.as_slice.ensures
    ∙ live_read c.self.inside.graph c.self.inside.directory c.self.inside.texts kept.readings c.args.path.now c.in_ok-objects.objects
    c.in_ok-objects.ensures.members c.in_ok-objects.ensures.rising))
    c.removing.ensures)
