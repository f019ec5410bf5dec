use Rattle.std.proofs.Common.{IsTrue, sym, subst}
use Rattle.store_daemon.specs.Daemons.{DaemonView}
use Rattle.store_daemon.proofs.RunningLemmas.{ended_running}
use Rattle.store_daemon.proofs.daemons.Daemon.end.Goals as goal

pub invariant_of-self : goal.invariant_of-self
invariant_of-self g c = λ _.
    ended_running c.self.inside.base c.self.inside.store c.self.inside.files c.self.inside.connections c.take.new.self c.args.n
    (c.self.invariant (subst (λ (d : DaemonView _). IsTrue d.live) (sym c.self.view_is) c.requires.live)) c.take.ensures.others
