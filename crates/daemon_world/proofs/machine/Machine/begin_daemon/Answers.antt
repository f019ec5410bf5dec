use Rattle.std.proofs.Common.{Some}
use Rattle.daemon_world.specs.Worlds.{world_of}
use Rattle.daemon_world.proofs.OrderLemmas.{host_pushed}
use Rattle.daemon_world.proofs.machine.Machine.begin_daemon.Goals as goal

pub invariant_of-self-2 : goal.invariant_of-self-2
invariant_of-self-2 c =
    rw c.in_ok-push.ensures.items
    (host_pushed (world_of c.self.inside.hosts.items c.self.inside.editors.items c.self.inside.owners.items) c.self.inside.owners.items (Some c.new.result)
    c.self.invariant)
