use Rattle.std.proofs.Common.{◌∙◌, arith}
use Rattle.std.proofs.lemmas.Result.{err_from_is_err_and, IfOk-weaker, MatchResult-weaker}
use Rattle.journal_format.specs.Image.{IsPlaced}
use Rattle.change_journal.specs.Held.{IsHeld}
use Rattle.change_journal.specs.Opening.{opened, open_steps}
use Rattle.change_journal.proofs.Opens.{device_fails, rises, front_fails, all_is_front, unchanged_behind, unchanged_leaves, WasImage, reads_placed, reads_held, reads_refused, reads_steps, refused_steps}
use Rattle.change_journal.proofs.opening.open_disk.Goals as goal

pub returns-in_err-settle-clause-fault : goal.returns-in_err-settle-clause-fault
returns-in_err-settle-clause-fault g c =
    let kept = err_from_is_err_and c.from_residual.result c.from_residual.ensures.1 in
    rw (kept.1, kept.2) (device_fails (g.D.Disk.meaning c.args.disk.now) (g.D.Disk.meaning c.settle.new.disk) c.in_err-settle.field-0.0 (λ is. c.in_err-settle.ensures.fault (cc)))

pub returns-in_err-settle-clause-steps : goal.returns-in_err-settle-clause-steps
returns-in_err-settle-clause-steps g c = λ told.
    let kept = err_from_is_err_and c.from_residual.result c.from_residual.ensures.1 in
    rw (kept.1, kept.2) (c.in_err-settle.ensures.steps told)

pub returns-in_err-bytes-clause-fault : goal.returns-in_err-bytes-clause-fault
returns-in_err-bytes-clause-fault g c =
    let kept = err_from_is_err_and c.from_residual-in_err-bytes.result c.from_residual-in_err-bytes.ensures.1 in
    rw (kept.1, kept.2) (device_fails (g.D.Disk.meaning c.args.disk.now) (g.D.Disk.meaning c.read_all.new.disk) c.in_err-bytes.field-0.0
    (λ is. rises (g.D.Disk.meaning c.args.disk.now).faults (g.D.Disk.meaning c.settle.new.disk).faults (g.D.Disk.meaning c.read_all.new.disk).faults c.in_ok-settle.ensures.later (c.in_err-bytes.ensures.fault (cc))))

pub returns-in_err-bytes-clause-steps : goal.returns-in_err-bytes-clause-steps
returns-in_err-bytes-clause-steps g c = λ told.
    let kept = err_from_is_err_and c.from_residual-in_err-bytes.result c.from_residual-in_err-bytes.ensures.1 in
    let steps = open_steps (g.D.Disk.meaning c.args.disk.now).seen in
    rw (kept.1, kept.2) (front_fails (g.D.Disk.meaning c.args.disk.now) (g.D.Disk.meaning c.read_all.new.disk) steps c.in_err-bytes.field-0.0
    (all_is_front (g.D.Disk.meaning c.args.disk.now) (g.D.Disk.meaning c.read_all.new.disk) steps (unchanged_behind (g.D.Disk.meaning c.args.disk.now) (g.D.Disk.meaning c.settle.new.disk) (g.D.Disk.meaning c.read_all.new.disk) steps (c.in_ok-settle.ensures.steps told) c.in_err-bytes.ensures.unchanged)))

pub returns-in_err-bytes-clause-moments : goal.returns-in_err-bytes-clause-moments
returns-in_err-bytes-clause-moments g c = λ told some.
    unchanged_leaves (g.D.Disk.meaning c.args.disk.now) (g.D.Disk.meaning c.settle.new.disk) (g.D.Disk.meaning c.read_all.new.disk) (WasImage (g.D.Disk.meaning c.args.disk.now)) (g.met.D.Disk.sound c.settle.new.disk) (c.in_ok-settle.ensures.moments told some)
    c.in_err-bytes.ensures.elapses c.in_err-bytes.ensures.unchanged

pub returns-clause-placed : goal.returns-clause-placed
returns-clause-placed g c = λ told.
    IfOk-weaker c.read_journal.result (λ contents. IsPlaced c.as_slice.result.now contents.records contents.gates contents.end)
    (λ contents. IsPlaced (opened (g.D.Disk.meaning c.args.disk.now).seen) contents.records contents.gates contents.end) (λ contents placed.
    reads_placed (g.D.Disk.meaning c.args.disk.now) (g.D.Disk.meaning c.settle.new.disk) (g.D.Disk.meaning c.read_all.new.disk) c.as_slice.result.now
    (λ told. c.in_ok-settle.ensures.told (c.in_ok-bytes.ensures.elapses.was_told told)) c.in_ok-settle.ensures.steps c.in_ok-bytes.ensures.unchanged
    (λ told. c.as_slice.ensures.value ∙ c.in_ok-bytes.ensures.bytes (c.in_ok-settle.ensures.keeps told)) contents.records contents.gates contents.end placed told) c.read_journal.ensures.placed

pub returns-clause-held : goal.returns-clause-held
returns-clause-held g c =
    IfOk-weaker c.read_journal.result (λ contents. IsPlaced c.as_slice.result.now contents.records contents.gates contents.end)
    (λ contents. IsHeld (g.D.Disk.meaning c.read_all.new.disk) contents.records contents.gates contents.end) (λ contents placed.
    reads_held (g.D.Disk.meaning c.args.disk.now) (g.D.Disk.meaning c.settle.new.disk) (g.D.Disk.meaning c.read_all.new.disk) c.as_slice.result.now
    (λ told. c.in_ok-settle.ensures.told (c.in_ok-bytes.ensures.elapses.was_told told)) c.in_ok-settle.ensures.steps c.in_ok-bytes.ensures.unchanged
    (λ told. c.as_slice.ensures.value ∙ c.in_ok-bytes.ensures.bytes (c.in_ok-settle.ensures.keeps told)) contents.records contents.gates contents.end (omega (arith, c.as_slice.type_inv.0)) placed) c.read_journal.ensures.placed

pub returns-clause-fault : goal.returns-clause-fault
returns-clause-fault g c =
    MatchResult-weaker c.read_journal.result c.read_journal.ensures.fault (λ contents any. any) (λ fault refused.
    reads_refused (g.D.Disk.meaning c.args.disk.now) (g.D.Disk.meaning c.settle.new.disk) (g.D.Disk.meaning c.read_all.new.disk) c.as_slice.result.now
    (λ told. c.in_ok-settle.ensures.told (c.in_ok-bytes.ensures.elapses.was_told told)) c.in_ok-settle.ensures.steps c.in_ok-bytes.ensures.unchanged
    (λ told. c.as_slice.ensures.value ∙ c.in_ok-bytes.ensures.bytes (c.in_ok-settle.ensures.keeps told)) fault refused)

pub returns-clause-steps : goal.returns-clause-steps
returns-clause-steps g c = λ told.
    MatchResult-weaker c.read_journal.result c.read_journal.ensures.fault (λ contents any.
    reads_steps (g.D.Disk.meaning c.args.disk.now) (g.D.Disk.meaning c.settle.new.disk) (g.D.Disk.meaning c.read_all.new.disk) c.as_slice.result.now
    (λ told. c.in_ok-settle.ensures.told (c.in_ok-bytes.ensures.elapses.was_told told)) c.in_ok-settle.ensures.steps c.in_ok-bytes.ensures.unchanged
    (λ told. c.as_slice.ensures.value ∙ c.in_ok-bytes.ensures.bytes (c.in_ok-settle.ensures.keeps told)) told) (λ fault refused.
    refused_steps (g.D.Disk.meaning c.args.disk.now) (g.D.Disk.meaning c.settle.new.disk) (g.D.Disk.meaning c.read_all.new.disk) c.as_slice.result.now
    (λ told. c.in_ok-settle.ensures.told (c.in_ok-bytes.ensures.elapses.was_told told)) c.in_ok-settle.ensures.steps c.in_ok-bytes.ensures.unchanged
    (λ told. c.as_slice.ensures.value ∙ c.in_ok-bytes.ensures.bytes (c.in_ok-settle.ensures.keeps told)) fault refused told)

pub returns-clause-moments : goal.returns-clause-moments
returns-clause-moments g c = λ told some.
    unchanged_leaves (g.D.Disk.meaning c.args.disk.now) (g.D.Disk.meaning c.settle.new.disk) (g.D.Disk.meaning c.read_all.new.disk) (WasImage (g.D.Disk.meaning c.args.disk.now)) (g.met.D.Disk.sound c.settle.new.disk) (c.in_ok-settle.ensures.moments told some)
    c.in_ok-bytes.ensures.elapses c.in_ok-bytes.ensures.unchanged
