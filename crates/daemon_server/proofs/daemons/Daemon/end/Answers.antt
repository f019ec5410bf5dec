use Rattle.daemon_server.proofs.DaemonLemmas.{ended_serving}
use Rattle.daemon_server.proofs.daemons.Daemon.end.Goals as goal

pub invariant_of-self : goal.invariant_of-self
invariant_of-self c =
    ended_serving c.self.inside.base c.self.inside.files c.self.inside.connections c.take.new.self c.args.n c.self.invariant c.take.ensures.others
