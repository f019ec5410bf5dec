use Rattle.std.proofs.Common.{ℕ, List, IsTrue, sym, ap, subst}
use Rattle.outside.specs.Moments.{LeavesNow, LeavesOnly}
use Rattle.journal_format.specs.Image.{StandsFor}
use Rattle.journal_format.specs.declared.records.Record.{Record}
use Rattle.daemon_core.specs.declared.events.Event.TheVariants.{EditorFrame}
use Rattle.daemon_events.specs.Outputs.{Served}
use Rattle.daemon_history.specs.Holding.{Holding}
use Rattle.store_daemon.specs.Daemons.{DaemonView, IsBeforeOrAfterEvent}
use Rattle.store_daemon.specs.Following.{IsServed}
use Rattle.store_daemon.proofs.DiskLemmas.{rests_so, commits_so}
use Rattle.store_daemon.proofs.RunningLemmas.{served_running}
use Rattle.store_daemon.proofs.daemons.Daemon.hear.Goals as goal

pub returns-in_err-sent-clause-moments : goal.returns-in_err-sent-clause-moments
returns-in_err-sent-clause-moments g c =
    let runs = c.self.invariant (subst (λ (d : DaemonView _). IsTrue d.live) (sym c.self.view_is) c.requires.live) in
    subst
    (λ (d : DaemonView _). LeavesOnly (g.D.Disk.meaning d.store.journal.disk) (g.D.Disk.meaning c.serve_frame.new.store.journal.disk)
    (IsBeforeOrAfterEvent d (EditorFrame c.args.n c.args.body.now)))
    c.self.view_is
    (rests_so g.D.Disk.meaning g.met.D.Disk.sound
    (record { base = c.self.inside.base; store = c.self.inside.store; connections = c.self.inside.connections; live = c.self.inside.live })
    (EditorFrame c.args.n c.args.body.now) runs.settled (c.is_live-durable.ensures.durable runs.live)
    c.serve_frame.new.store.journal c.in_err-sent.ensures.rests)

pub returns-in_err-commit-clause-moments : goal.returns-in_err-commit-clause-moments
returns-in_err-commit-clause-moments g c =
    let runs = c.self.invariant (subst (λ (d : DaemonView _). IsTrue d.live) (sym c.self.view_is) c.requires.live) in
    let served =
    subst
    (λ (b : List ℕ). IsServed c.self.inside.base c.self.inside.store c.serve_frame.new.store c.args.n b c.self.inside.connections
    c.serve_frame.new.connections c.serve_frame.new.files c.in_ok-sent.sent)
    c.as_slice.ensures c.in_ok-sent.ensures.served in
    subst
    (λ (d : DaemonView _). LeavesOnly (g.D.Disk.meaning d.store.journal.disk) (g.D.Disk.meaning c.commit.new.self.journal.disk)
    (IsBeforeOrAfterEvent d (EditorFrame c.args.n c.args.body.now)))
    c.self.view_is
    (commits_so g.D.Disk.meaning g.met.D.Disk.sound
    (record { base = c.self.inside.base; store = c.self.inside.store; connections = c.self.inside.connections; live = c.self.inside.live })
    (EditorFrame c.args.n c.args.body.now) runs.settled (c.is_live-durable.ensures.durable runs.live)
    c.serve_frame.new.store c.commit.new.self.journal c.in_ok-sent.ensures.rests
    (ap (λ (x : Served). x.state.holding.recorded) served.is) c.in_err-commit.ensures.moments)

pub invariant_of-self-2 : goal.invariant_of-self-2
invariant_of-self-2 g c = λ _.
    served_running c.self.inside.base c.self.inside.store c.serve_frame.new.store c.commit.new.self c.args.n _ c.self.inside.connections
    c.serve_frame.new.connections c.serve_frame.new.files c.in_ok-sent.sent c.in_ok-sent.ensures.served c.in_ok-commit.ensures.ok
    (c.a_store_shows_what_its_daemon_holds.ensures.commits c.serve_frame.new.store c.commit.new.self c.in_ok-commit.ensures.ok)

pub returns-clause-moments : goal.returns-clause-moments
returns-clause-moments g c =
    let runs = c.self.invariant (subst (λ (d : DaemonView _). IsTrue d.live) (sym c.self.view_is) c.requires.live) in
    let served =
    subst
    (λ (b : List ℕ). IsServed c.self.inside.base c.self.inside.store c.serve_frame.new.store c.args.n b c.self.inside.connections
    c.serve_frame.new.connections c.serve_frame.new.files c.in_ok-sent.sent)
    c.as_slice.ensures c.in_ok-sent.ensures.served in
    subst
    (λ (d : DaemonView _). LeavesOnly (g.D.Disk.meaning d.store.journal.disk) (g.D.Disk.meaning c.commit.new.self.journal.disk)
    (IsBeforeOrAfterEvent d (EditorFrame c.args.n c.args.body.now)))
    c.self.view_is
    (commits_so g.D.Disk.meaning g.met.D.Disk.sound
    (record { base = c.self.inside.base; store = c.self.inside.store; connections = c.self.inside.connections; live = c.self.inside.live })
    (EditorFrame c.args.n c.args.body.now) runs.settled (c.is_live-durable.ensures.durable runs.live)
    c.serve_frame.new.store c.commit.new.self.journal c.in_ok-sent.ensures.rests
    (ap (λ (x : Served). x.state.holding.recorded) served.is) c.in_ok-commit.ensures.moments)

pub returns-clause-durable : goal.returns-clause-durable
returns-clause-durable g c =
    subst (λ (recorded : List Record). LeavesNow (g.D.Disk.meaning c.commit.new.self.journal.disk) (λ image. StandsFor image recorded))
    (sym (ap (λ (h : Holding). h.recorded)
    (c.a_store_shows_what_its_daemon_holds.ensures.commits c.serve_frame.new.store c.commit.new.self c.in_ok-commit.ensures.ok)))
    c.in_ok-commit.ensures.durable
