use Rattle.std.proofs.lemmas.Result.{err_from_is_err_and}
use Rattle.change_journal.proofs.Opens.{begin_ends, begin_sync_ends, begin_makes}
use Rattle.change_journal.proofs.opening.begin.Goals as goal

pub returns-in_err-write_at-clause-steps : goal.returns-in_err-write_at-clause-steps
returns-in_err-write_at-clause-steps g c = λ told.
    let kept = err_from_is_err_and c.from_residual.result c.from_residual.ensures.1 in
    rw (kept.1, kept.2) (begin_ends (g.D.Disk.meaning c.args.disk.now) (g.D.Disk.meaning c.write_at.new.self) c.empty_journal.result c.in_err-write_at.field-0.0 c.empty_journal.ensures told c.in_err-write_at.ensures.writes)

pub returns-in_err-sync-clause-steps : goal.returns-in_err-sync-clause-steps
returns-in_err-sync-clause-steps g c = λ told.
    let kept = err_from_is_err_and c.from_residual-in_err-sync.result c.from_residual-in_err-sync.ensures.1 in
    rw (kept.1, kept.2) (begin_sync_ends (g.D.Disk.meaning c.args.disk.now) (g.D.Disk.meaning c.write_at.new.self) (g.D.Disk.meaning c.sync.new.self) c.empty_journal.result c.in_ok-write_at.field-0 c.in_err-sync.field-0.0 c.empty_journal.ensures told c.in_ok-write_at.ensures.writes c.in_err-sync.ensures.syncs)

pub returns-clause-steps : goal.returns-clause-steps
returns-clause-steps g c = λ told.
    begin_makes (g.D.Disk.meaning c.args.disk.now) (g.D.Disk.meaning c.write_at.new.self) (g.D.Disk.meaning c.sync.new.self) c.empty_journal.result c.in_ok-write_at.field-0 c.in_ok-sync.field-0 c.empty_journal.ensures told c.in_ok-write_at.ensures.writes c.in_ok-sync.ensures.syncs
