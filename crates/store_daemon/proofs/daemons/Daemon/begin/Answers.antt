use Rattle.std.proofs.Common.{IsTrue, sym, ap, ◌∙◌, subst}
use Rattle.std.specs.BTreeMap.{insert_entry}
use Rattle.std.specs.Ordering.{nat_cmp}
use Rattle.store_daemon.specs.Daemons.{DaemonView}
use Rattle.store_daemon.proofs.RunningLemmas.{began_running}
use Rattle.store_daemon.proofs.daemons.Daemon.begin.Goals as goal

pub invariant_of-self-2 : goal.invariant_of-self-2
invariant_of-self-2 g c = λ _.
    began_running c.self.inside.base c.self.inside.store c.self.inside.files c.self.inside.connections c.put.new.self c.args.n
    (c.self.invariant (subst (λ (d : DaemonView _). IsTrue d.live) (sym c.self.view_is) c.requires.live))
    (c.in_ok-put.ensures.ok ∙ ap (insert_entry nat_cmp c.self.inside.connections c.args.n) c.none.ensures)
