use Rattle.std.proofs.Common.{◌∙◌, ap, sym, subst, length, ℕ, Some, IsTrue}
use Rattle.std.specs.Option.{option_map}
use Rattle.replica_history.specs.Replica.{ReplicaView, AreReadings}
use Rattle.replica_history.proofs.ReplicaLemmas.{view_some, view_none}
use Rattle.replica_history.proofs.replicas.Replica.text_length.Goals as goal

pub returns-in-Some : goal.returns-in-Some
returns-in-Some c =
    let readings : AreReadings c.self.inside.graph c.self.inside.directory c.self.inside.texts =
    (c.self.invariant (subst (λ (v : ReplicaView). IsTrue v.live) (sym c.self.view_is) c.requires)).readings in
    rw (← c.self.view_is)
    (ap (λ (n : ℕ). Some n) c.object_length.ensures
    ∙ ap (option_map length)
    (view_some c.self.inside.graph c.self.inside.directory c.self.inside.texts readings c.args.path.now c.in-Some.object c.in-Some.ensures))

pub returns-in-None : goal.returns-in-None
returns-in-None c =
    let readings : AreReadings c.self.inside.graph c.self.inside.directory c.self.inside.texts =
    (c.self.invariant (subst (λ (v : ReplicaView). IsTrue v.live) (sym c.self.view_is) c.requires)).readings in
    rw (← c.self.view_is)
    (ap (option_map length) (view_none c.self.inside.graph c.self.inside.directory c.self.inside.texts readings c.args.path.now c.in-None.ensures))
