use Rattle.std.proofs.Common.{is_some, ◌≡◌, true, subst, sym, rules, string_bytes}
use Rattle.std.proofs.lemmas.Result.{IfOk-weaker}
use Rattle.plain_world.specs.Lines.{hung_line}
use Rattle.kept_world.specs.Worlds.{KeptWorld, running, with_host}
use Rattle.daemon_world.specs.Hearing.{hung_up}
use Rattle.daemon_world.specs.Worlds.{world_of}
use Rattle.daemon_world.proofs.FedLemmas.{hangs_so}
use Rattle.daemon_world.proofs.OrderLemmas.{host_set}
use Rattle.daemon_world.proofs.machine.Machine.hang_up.Goals as goal

pub invariant_of-self : goal.invariant_of-self
invariant_of-self c =
    let w = world_of c.self.inside.hosts.items c.self.inside.editors.items c.self.inside.owners.items in
    let runs : is_some (running c.args.self.now c.args.d) ≡ true = search rules in
    host_set w c.self.inside.owners.items c.args.d c.end_fed.new.self (subst (λ (k : KeptWorld). is_some (running k c.args.d) ≡ true) (sym c.self.view_is) runs)
    c.self.invariant

pub returns : goal.returns
returns c =
    let w = world_of c.self.inside.hosts.items c.self.inside.editors.items c.self.inside.owners.items in
    let runs : is_some (running c.args.self.now c.args.d) ≡ true = search rules in
    IfOk-weaker c.write_hung.result (λ line. string_bytes line ≡ hung_line c.args.d c.args.c)
    (λ line. hung_up c.args.d c.args.c c.args.self.now ≡ record { world = with_host w c.args.d c.end_fed.new.self; printed = string_bytes line })
    (λ line told. hangs_so c.args.self.now w c.args.d c.args.c c.index_mut-host.result.now c.in-Some.host c.end_fed.new.self (string_bytes line) c.self.view_is runs
    c.index_mut-host.ensures.value c.in-Some.is c.end_fed.ensures told)
    c.write_hung.ensures
