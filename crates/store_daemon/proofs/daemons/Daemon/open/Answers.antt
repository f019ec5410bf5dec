use Rattle.std.proofs.Common.{List, refl, sym, subst}
use Rattle.journal_format.specs.Image.{StandsFor}
use Rattle.journal_format.specs.declared.records.Record.{Record}
use Rattle.outside.specs.Moments.{LeavesNow}
use Rattle.store_daemon.proofs.DiskLemmas.{settled_records}
use Rattle.store_daemon.proofs.daemons.Daemon.open.Goals as goal

pub returns-in-Ok-clause-started : goal.returns-in-Ok-clause-started
returns-in-Ok-clause-started g c = record {
  opens = c.in-Ok.ensures.opened;
  state = λ i. record {
    base = c.args.base;
    holding =
        c.a_store_shows_what_its_daemon_holds.ensures.started c.in-Ok.store c.in-Ok.ensures.opened.recorded c.args.actor
        c.in-Ok.ensures.opened.is_opened i;
    connections = c.none.ensures i;
  };
  live = refl;
}

pub returns-in-Ok-clause-durable : goal.returns-in-Ok-clause-durable
returns-in-Ok-clause-durable g c =
    subst (λ (recorded : List Record). LeavesNow (g.D.Disk.meaning c.in-Ok.store.journal.disk) (λ image. StandsFor image recorded))
    (sym (settled_records c.in-Ok.store c.in-Ok.ensures.opened.is_opened.none_staged)) c.in-Ok.ensures.durable
