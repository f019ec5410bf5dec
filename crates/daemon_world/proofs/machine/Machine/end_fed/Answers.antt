use Rattle.std.proofs.Common.{ap, is_some, ◌≡◌, true, subst, sym}
use Rattle.kept_world.specs.Steps.{raw_ends}
use Rattle.kept_world.specs.Worlds.{KeptWorld}
use Rattle.daemon_world.specs.Worlds.{world_of}
use Rattle.daemon_world.proofs.FedLemmas.{may_end, ends_so}
use Rattle.daemon_world.proofs.OrderLemmas.{host_set}
use Rattle.daemon_world.proofs.machine.Machine.end_fed.Goals as goal

pub invariant_of-self : goal.invariant_of-self
invariant_of-self c =
    let w = world_of c.self.inside.hosts.items c.self.inside.editors.items c.self.inside.owners.items in
    let may = subst (λ (k : KeptWorld). is_some (raw_ends k c.args.d c.args.c) ≡ true) (sym c.self.view_is) c.requires in
    host_set w c.self.inside.owners.items c.args.d c.end_fed.new.self (ap is_some (may_end w c.args.d c.args.c may).runs) c.self.invariant

pub returns : goal.returns
returns c =
    ends_so c.args.self.now (world_of c.self.inside.hosts.items c.self.inside.editors.items c.self.inside.owners.items) c.args.d c.args.c c.index_mut-host.result.now c.in-Some.host c.end_fed.new.self c.self.view_is c.requires
    c.index_mut-host.ensures.value c.in-Some.is c.end_fed.ensures
