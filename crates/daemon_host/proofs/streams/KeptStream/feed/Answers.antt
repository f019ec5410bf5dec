use Rattle.std.proofs.Common.{Some, Err, sym, ap, ◌∙◌, subst}
use Rattle.rpc_frame.specs.ReaderView.{ReaderView}
use Rattle.plain_world.specs.RawFrames.{read_behind}
use Rattle.daemon_host.specs.Streams.{IsReadAs}
use Rattle.daemon_host.proofs.ReadingLemmas.{goes_on, breaks_off}
use Rattle.daemon_host.proofs.streams.KeptStream.feed.Goals as goal

pub returns-in-Ok-clause-kept : goal.returns-in-Ok-clause-kept
returns-in-Ok-clause-kept c = λ reader.
    (goes_on reader c.self.inside.reader c.feed.new.self c.args.self c.args.piece.now c.in-Ok.bodies c.self.invariant c.self.view_is c.in-Ok.ensures.read
    c.in-Ok.ensures.unbroken).kept

pub returns-in-Ok-clause-read : goal.returns-in-Ok-clause-read
returns-in-Ok-clause-read c = λ reader.
    (goes_on reader c.self.inside.reader c.feed.new.self c.args.self c.args.piece.now c.in-Ok.bodies c.self.invariant c.self.view_is c.in-Ok.ensures.read
    c.in-Ok.ensures.unbroken).read

pub returns-in_ok-fault-in-Err-clause-kept : goal.returns-in_ok-fault-in-Err-clause-kept
returns-in_ok-fault-in-Err-clause-kept c = λ reader.
    ap (λ (r : ReaderView). r.kept) c.take_done.ensures.rest
    ∙ (breaks_off reader c.self.inside.reader c.feed.new.self c.args.self c.args.piece.now c.in-Err.end c.in_ok-fault-in-Err.fault c.self.invariant c.self.view_is
    (λ e. c.in-Err.ensures.fault c.in_ok-fault-in-Err.fault (ap Err e)) (λ e. c.in-Err.ensures.broken c.in_ok-fault-in-Err.fault (ap Err e))
    (λ e. (c.in-Err.ensures.closed c.in_ok-fault-in-Err.fault).0 (ap Err e)) (c.in-Err.ensures.still c.in_ok-fault-in-Err.fault)
    c.in_ok-fault-in-Err.ensures.met).kept

pub returns-in_ok-fault-in-Err-clause-read : goal.returns-in_ok-fault-in-Err-clause-read
returns-in_ok-fault-in-Err-clause-read c = λ reader.
    let fault = c.in_ok-fault-in-Err.fault in
    let reading = read_behind reader c.args.self c.args.piece.now in
    subst (λ bodies. IsReadAs reading (record { bodies = bodies; fault = Some fault })) (sym c.take_done.ensures.bodies)
    (breaks_off reader c.self.inside.reader c.feed.new.self c.args.self c.args.piece.now c.in-Err.end fault c.self.invariant c.self.view_is
    (λ e. c.in-Err.ensures.fault fault (ap Err e)) (λ e. c.in-Err.ensures.broken fault (ap Err e)) (λ e. (c.in-Err.ensures.closed fault).0 (ap Err e))
    (c.in-Err.ensures.still fault) c.in_ok-fault-in-Err.ensures.met).read
