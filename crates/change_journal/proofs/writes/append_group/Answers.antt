use Rattle.std.proofs.Common.{◌+◌, [], ◌∷◌, ◌++◌, length, replicate, Ok, Err}
use Rattle.journal_format.specs.Image.{open_group}
use Rattle.std.proofs.lemmas.Result.{err_from_is_err_and}
use Rattle.change_journal.specs.Steps.{ToWrite, ToSync}
use Rattle.change_journal.proofs.Appends.{behind_write, behind_sync, behind_gate, behind_all, rests_again, rests_leaves}
use Rattle.change_journal.proofs.Trails.{none_made, wrote, synced, write_ends, sync_ends}
use Rattle.change_journal.proofs.writes.append_group.Goals as goal

pub returns-in_err-write_at-clause-moments : goal.returns-in_err-write_at-clause-moments
returns-in_err-write_at-clause-moments g c =
    λ recorded gates added adds. behind_write (g.D.Disk.meaning c.args.disk.now) recorded gates c.args.gate added c.args.bytes.now (g.met.D.Disk.sound c.args.disk.now) adds (g.D.Disk.meaning c.write_at.new.self) (Err c.in_err-write_at.field-0.0) c.in_err-write_at.ensures.writes

pub returns-in_err-sync-clause-moments : goal.returns-in_err-sync-clause-moments
returns-in_err-sync-clause-moments g c =
    λ recorded gates added adds. behind_sync (g.D.Disk.meaning c.args.disk.now) recorded gates c.args.gate added c.args.bytes.now (g.met.D.Disk.sound c.args.disk.now) adds (g.D.Disk.meaning c.write_at.new.self) c.in_ok-write_at.field-0 c.in_ok-write_at.ensures.writes (g.D.Disk.meaning c.sync.new.self) (Err c.in_err-sync.field-0.0) c.in_err-sync.ensures.syncs

pub returns-in_err-write_at-2-clause-moments : goal.returns-in_err-write_at-2-clause-moments
returns-in_err-write_at-2-clause-moments g c =
    λ recorded gates added adds. behind_gate (g.D.Disk.meaning c.args.disk.now) recorded gates c.args.gate added c.args.bytes.now (g.met.D.Disk.sound c.args.disk.now) adds (g.D.Disk.meaning c.write_at.new.self) c.in_ok-write_at.field-0 c.in_ok-write_at.ensures.writes (g.D.Disk.meaning c.sync.new.self) c.in_ok-sync.field-0 c.in_ok-sync.ensures.syncs (g.D.Disk.meaning c.write_at-2.new.self) (Err c.in_err-write_at-2.field-0.0) c.in_err-write_at-2.ensures.writes

pub returns-in_err-sync-2-clause-moments : goal.returns-in_err-sync-2-clause-moments
returns-in_err-sync-2-clause-moments g c =
    λ recorded gates added adds. behind_all (g.D.Disk.meaning c.args.disk.now) recorded gates c.args.gate added c.args.bytes.now (g.met.D.Disk.sound c.args.disk.now) adds (g.D.Disk.meaning c.write_at.new.self) c.in_ok-write_at.field-0 c.in_ok-write_at.ensures.writes (g.D.Disk.meaning c.sync.new.self) c.in_ok-sync.field-0 c.in_ok-sync.ensures.syncs (g.D.Disk.meaning c.write_at-2.new.self) c.in_ok-write_at-2.field-0 c.in_ok-write_at-2.ensures.writes (g.D.Disk.meaning c.sync-2.new.self) (Err c.in_err-sync-2.field-0.0) c.in_err-sync-2.ensures.syncs

pub returns-clause-moments : goal.returns-clause-moments
returns-clause-moments g c =
    λ recorded gates added adds. behind_all (g.D.Disk.meaning c.args.disk.now) recorded gates c.args.gate added c.args.bytes.now (g.met.D.Disk.sound c.args.disk.now) adds (g.D.Disk.meaning c.write_at.new.self) c.in_ok-write_at.field-0 c.in_ok-write_at.ensures.writes (g.D.Disk.meaning c.sync.new.self) c.in_ok-sync.field-0 c.in_ok-sync.ensures.syncs (g.D.Disk.meaning c.write_at-2.new.self) c.in_ok-write_at-2.field-0 c.in_ok-write_at-2.ensures.writes (g.D.Disk.meaning c.sync-2.new.self) (Ok c.in_ok-sync-2.field-0) c.in_ok-sync-2.ensures.syncs

pub returns-clause-rests : goal.returns-clause-rests
returns-clause-rests g c =
    λ recorded gates added adds. rests_again (g.D.Disk.meaning c.args.disk.now) recorded gates c.args.gate added c.args.bytes.now (g.met.D.Disk.sound c.args.disk.now) adds (g.D.Disk.meaning c.write_at.new.self) c.in_ok-write_at.field-0 c.in_ok-write_at.ensures.writes (g.D.Disk.meaning c.sync.new.self) c.in_ok-sync.field-0 c.in_ok-sync.ensures.syncs (g.D.Disk.meaning c.write_at-2.new.self) c.in_ok-write_at-2.field-0 c.in_ok-write_at-2.ensures.writes (g.D.Disk.meaning c.sync-2.new.self) c.in_ok-sync-2.field-0 c.in_ok-sync-2.ensures.syncs

pub returns-clause-durable : goal.returns-clause-durable
returns-clause-durable g c =
    λ recorded gates added adds. rests_leaves (g.D.Disk.meaning c.sync-2.new.self) (recorded ++ added) (gates ++ replicate (length added) c.args.gate) (c.args.gate + length (open_group added)) (rests_again (g.D.Disk.meaning c.args.disk.now) recorded gates c.args.gate added c.args.bytes.now (g.met.D.Disk.sound c.args.disk.now) adds (g.D.Disk.meaning c.write_at.new.self) c.in_ok-write_at.field-0 c.in_ok-write_at.ensures.writes (g.D.Disk.meaning c.sync.new.self) c.in_ok-sync.field-0 c.in_ok-sync.ensures.syncs (g.D.Disk.meaning c.write_at-2.new.self) c.in_ok-write_at-2.field-0 c.in_ok-write_at-2.ensures.writes (g.D.Disk.meaning c.sync-2.new.self) c.in_ok-sync-2.field-0 c.in_ok-sync-2.ensures.syncs)

pub returns-in_err-write_at-clause-steps : goal.returns-in_err-write_at-clause-steps
returns-in_err-write_at-clause-steps g c = λ told.
    let kept = err_from_is_err_and c.from_residual.result c.from_residual.ensures.1 in
    rw (kept.1, kept.2) (write_ends (g.D.Disk.meaning c.args.disk.now) (g.D.Disk.meaning c.args.disk.now) (g.D.Disk.meaning c.write_at.new.self) [] (record { place = c.args.gate + 1; bytes = c.args.bytes.now }) (ToSync ∷ ToWrite (record { place = c.args.gate; bytes = 1 ∷ [] }) ∷ ToSync ∷ []) c.in_err-write_at.field-0.0 told (none_made (g.D.Disk.meaning c.args.disk.now)) c.in_err-write_at.ensures.writes)

pub returns-in_err-sync-clause-steps : goal.returns-in_err-sync-clause-steps
returns-in_err-sync-clause-steps g c = λ told.
    let kept = err_from_is_err_and c.from_residual-in_err-sync.result c.from_residual-in_err-sync.ensures.1 in
    rw (kept.1, kept.2) (sync_ends (g.D.Disk.meaning c.args.disk.now) (g.D.Disk.meaning c.write_at.new.self) (g.D.Disk.meaning c.sync.new.self) (ToWrite (record { place = c.args.gate + 1; bytes = c.args.bytes.now }) ∷ []) (ToWrite (record { place = c.args.gate; bytes = 1 ∷ [] }) ∷ ToSync ∷ []) c.in_err-sync.field-0.0 (c.in_ok-write_at.ensures.writes.elapses.told told) (wrote (g.D.Disk.meaning c.args.disk.now) (g.D.Disk.meaning c.args.disk.now) (g.D.Disk.meaning c.write_at.new.self) [] (record { place = c.args.gate + 1; bytes = c.args.bytes.now }) c.in_ok-write_at.field-0 told (none_made (g.D.Disk.meaning c.args.disk.now)) c.in_ok-write_at.ensures.writes) c.in_err-sync.ensures.syncs)

pub returns-in_err-write_at-2-clause-steps : goal.returns-in_err-write_at-2-clause-steps
returns-in_err-write_at-2-clause-steps g c = λ told.
    let kept = err_from_is_err_and c.from_residual-in_err-write_at-2.result c.from_residual-in_err-write_at-2.ensures.1 in
    rw (kept.1, kept.2) (write_ends (g.D.Disk.meaning c.args.disk.now) (g.D.Disk.meaning c.sync.new.self) (g.D.Disk.meaning c.write_at-2.new.self) (ToWrite (record { place = c.args.gate + 1; bytes = c.args.bytes.now }) ∷ ToSync ∷ []) (record { place = c.args.gate; bytes = 1 ∷ [] }) (ToSync ∷ []) c.in_err-write_at-2.field-0.0 (c.in_ok-sync.ensures.syncs.elapses.told (c.in_ok-write_at.ensures.writes.elapses.told told)) (synced (g.D.Disk.meaning c.args.disk.now) (g.D.Disk.meaning c.write_at.new.self) (g.D.Disk.meaning c.sync.new.self) (ToWrite (record { place = c.args.gate + 1; bytes = c.args.bytes.now }) ∷ []) c.in_ok-sync.field-0 (c.in_ok-write_at.ensures.writes.elapses.told told) (wrote (g.D.Disk.meaning c.args.disk.now) (g.D.Disk.meaning c.args.disk.now) (g.D.Disk.meaning c.write_at.new.self) [] (record { place = c.args.gate + 1; bytes = c.args.bytes.now }) c.in_ok-write_at.field-0 told (none_made (g.D.Disk.meaning c.args.disk.now)) c.in_ok-write_at.ensures.writes) c.in_ok-sync.ensures.syncs) c.in_err-write_at-2.ensures.writes)

pub returns-in_err-sync-2-clause-steps : goal.returns-in_err-sync-2-clause-steps
returns-in_err-sync-2-clause-steps g c = λ told.
    let kept = err_from_is_err_and c.from_residual-in_err-sync-2.result c.from_residual-in_err-sync-2.ensures.1 in
    rw (kept.1, kept.2) (sync_ends (g.D.Disk.meaning c.args.disk.now) (g.D.Disk.meaning c.write_at-2.new.self) (g.D.Disk.meaning c.sync-2.new.self) (ToWrite (record { place = c.args.gate + 1; bytes = c.args.bytes.now }) ∷ ToSync ∷ ToWrite (record { place = c.args.gate; bytes = 1 ∷ [] }) ∷ []) [] c.in_err-sync-2.field-0.0 (c.in_ok-write_at-2.ensures.writes.elapses.told (c.in_ok-sync.ensures.syncs.elapses.told (c.in_ok-write_at.ensures.writes.elapses.told told))) (wrote (g.D.Disk.meaning c.args.disk.now) (g.D.Disk.meaning c.sync.new.self) (g.D.Disk.meaning c.write_at-2.new.self) (ToWrite (record { place = c.args.gate + 1; bytes = c.args.bytes.now }) ∷ ToSync ∷ []) (record { place = c.args.gate; bytes = 1 ∷ [] }) c.in_ok-write_at-2.field-0 (c.in_ok-sync.ensures.syncs.elapses.told (c.in_ok-write_at.ensures.writes.elapses.told told)) (synced (g.D.Disk.meaning c.args.disk.now) (g.D.Disk.meaning c.write_at.new.self) (g.D.Disk.meaning c.sync.new.self) (ToWrite (record { place = c.args.gate + 1; bytes = c.args.bytes.now }) ∷ []) c.in_ok-sync.field-0 (c.in_ok-write_at.ensures.writes.elapses.told told) (wrote (g.D.Disk.meaning c.args.disk.now) (g.D.Disk.meaning c.args.disk.now) (g.D.Disk.meaning c.write_at.new.self) [] (record { place = c.args.gate + 1; bytes = c.args.bytes.now }) c.in_ok-write_at.field-0 told (none_made (g.D.Disk.meaning c.args.disk.now)) c.in_ok-write_at.ensures.writes) c.in_ok-sync.ensures.syncs) c.in_ok-write_at-2.ensures.writes) c.in_err-sync-2.ensures.syncs)
