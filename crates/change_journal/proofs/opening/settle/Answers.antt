use Rattle.std.proofs.Common.{◌≡◌, ◌≢◌, [], length, Ok, Err, ap, arith}
use Rattle.std.proofs.lemmas.List.{nil_from_length}
use Rattle.std.proofs.lemmas.Result.{err_from_is_err_and}
use Rattle.change_journal.specs.Opening.{open_steps}
use Rattle.change_journal.proofs.Opens.{none_fails, measured, began, sync_fails, sync_makes, sync_leaves_so}
use Rattle.change_journal.proofs.opening.settle.Goals as goal

pub returns-in_err-len-clause-steps : goal.returns-in_err-len-clause-steps
returns-in_err-len-clause-steps g c = λ told.
    let kept = err_from_is_err_and c.from_residual.result c.from_residual.ensures.1 in
    rw (kept.1, kept.2) (none_fails (g.D.Disk.meaning c.args.disk.now) (g.D.Disk.meaning c.len.new.self) (open_steps (g.D.Disk.meaning c.args.disk.now).seen) c.in_err-len.ensures.measures.unchanged)

pub returns-in_err-len-clause-moments : goal.returns-in_err-len-clause-moments
returns-in_err-len-clause-moments g c = λ told some. measured (g.D.Disk.meaning c.args.disk.now) (g.D.Disk.meaning c.len.new.self) (Err c.in_err-len.field-0.0) (g.met.D.Disk.sound c.args.disk.now) c.in_err-len.ensures.measures

pub returns-then-branch-eq0-clause-steps : goal.returns-then-branch-eq0-clause-steps
returns-then-branch-eq0-clause-steps g c = λ told.
    let empty : (g.D.Disk.meaning c.args.disk.now).seen ≡ [] = nil_from_length (g.D.Disk.meaning c.args.disk.now).seen (omega (arith, c.in_ok-len.ensures.measures.so.length told)) in
    began (g.D.Disk.meaning c.args.disk.now) (g.D.Disk.meaning c.len.new.self) (g.D.Disk.meaning c.begin.new.disk) c.begin.result empty c.in_ok-len.ensures.measures.unchanged
    (c.begin.ensures.steps (c.in_ok-len.ensures.measures.elapses.told told))

pub returns-then-branch-eq0-clause-moments : goal.returns-then-branch-eq0-clause-moments
returns-then-branch-eq0-clause-moments g c = λ told some.
    absurd (some (nil_from_length (g.D.Disk.meaning c.args.disk.now).seen (omega (arith, c.in_ok-len.ensures.measures.so.length told))))

pub returns-in_err-sync-clause-steps : goal.returns-in_err-sync-clause-steps
returns-in_err-sync-clause-steps g c = λ told.
    let kept = err_from_is_err_and c.from_residual-in_err-sync.result c.from_residual-in_err-sync.ensures.1 in
    let some : (g.D.Disk.meaning c.args.disk.now).seen ≢ [] = λ is. omega (arith, c.in_ok-len.ensures.measures.so.length told, ap length is) in
    rw (kept.1, kept.2) (sync_fails (g.D.Disk.meaning c.args.disk.now) (g.D.Disk.meaning c.len.new.self) (g.D.Disk.meaning c.sync.new.self) c.in_err-sync.field-0.0 some (c.in_ok-len.ensures.measures.elapses.told told)
    c.in_ok-len.ensures.measures.unchanged c.in_err-sync.ensures.syncs)

pub returns-in_err-sync-clause-moments : goal.returns-in_err-sync-clause-moments
returns-in_err-sync-clause-moments g c = λ told some.
    sync_leaves_so (g.D.Disk.meaning c.args.disk.now) (g.D.Disk.meaning c.len.new.self) (g.D.Disk.meaning c.sync.new.self) (Ok c.in_ok-len.field-0) (Err c.in_err-sync.field-0.0) (g.met.D.Disk.sound c.args.disk.now) told c.in_ok-len.ensures.measures c.in_err-sync.ensures.syncs

pub returns-clause-steps : goal.returns-clause-steps
returns-clause-steps g c = λ told.
    let some : (g.D.Disk.meaning c.args.disk.now).seen ≢ [] = λ is. omega (arith, c.in_ok-len.ensures.measures.so.length told, ap length is) in
    sync_makes (g.D.Disk.meaning c.args.disk.now) (g.D.Disk.meaning c.len.new.self) (g.D.Disk.meaning c.sync.new.self) c.in_ok-sync.field-0 some (c.in_ok-len.ensures.measures.elapses.told told)
    c.in_ok-len.ensures.measures.unchanged c.in_ok-sync.ensures.syncs

pub returns-clause-moments : goal.returns-clause-moments
returns-clause-moments g c = λ told some.
    sync_leaves_so (g.D.Disk.meaning c.args.disk.now) (g.D.Disk.meaning c.len.new.self) (g.D.Disk.meaning c.sync.new.self) (Ok c.in_ok-len.field-0) (Ok c.in_ok-sync.field-0) (g.met.D.Disk.sound c.args.disk.now) told c.in_ok-len.ensures.measures c.in_ok-sync.ensures.syncs
