use Rattle.std.proofs.Common.{subst}
use Rattle.kept_world.specs.Worlds.{KeptWorld}
use Rattle.daemon_world.specs.Serving.{HasNobody}
use Rattle.daemon_world.specs.Worlds.{world_of}
use Rattle.daemon_world.proofs.ReceiverLemmas.{nobody_on_fed}
use Rattle.daemon_world.proofs.machine.Machine.settled.Goals as goal

pub returns : goal.returns
returns c = λ d n fed.
    let k : KeptWorld = world_of c.self.inside.hosts.items c.self.inside.editors.items c.self.inside.owners.items in
    subst (λ (v : KeptWorld). HasNobody v d n) c.self.view_is (nobody_on_fed k c.self.inside.owners.items d n c.self.invariant fed)
