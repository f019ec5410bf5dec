use Rattle.std.proofs.Common.{ap, ◌∙◌}
use Rattle.std.specs.BTreeMap.{insert_entry}
use Rattle.std.specs.Ordering.{nat_cmp}
use Rattle.daemon_server.proofs.DaemonLemmas.{began_serving}
use Rattle.daemon_server.proofs.daemons.Daemon.begin.Goals as goal

pub invariant_of-self-2 : goal.invariant_of-self-2
invariant_of-self-2 c =
    began_serving c.self.inside.base c.self.inside.files c.self.inside.connections c.replace-connections.result c.put.new.self c.args.n c.self.invariant
    c.replace-connections.ensures.value
    (c.in_ok-put.ensures.ok ∙ ap (insert_entry nat_cmp c.replace-connections.result c.args.n) c.none-2.ensures)
