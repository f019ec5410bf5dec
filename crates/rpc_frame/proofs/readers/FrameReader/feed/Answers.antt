-- A stream has one reading, so that a fault that it has is the one that is met.
use Rattle.std.proofs.Common.{◌≡◌, ℕ, true, List, ◌++◌, Result, Err, sym, ◌∙◌, ap, subst, inl}
use Rattle.rpc_frame.specs.Faults.{answer_of}
use Rattle.rpc_frame.specs.Stream.{Broken}
use Rattle.rpc_frame.specs.ReaderView.{ReaderView, ReadsOn}
use Rattle.rpc_frame.specs.Held.{held_bytes}
use Rattle.rpc_frame.specs.declared.begun.Stop.{Stop}
use Rattle.rpc_frame.specs.declared.faults.FrameEnd.{FrameEnd}
use Rattle.rpc_frame.proofs.ReaderLemmas.{reads_held, begun_or_broken, one_fault}
use Rattle.rpc_frame.proofs.readers.FrameReader.feed.Goals as goal

-- the reading stopped by
abbrev stopped : Stop → Result (Unit {0}) Stop
stopped stop = Err stop

-- the call ended by
abbrev ended : FrameEnd → Result (List (List ℕ)) FrameEnd
ended end = Err end

pub returns-in-Ok-clause-exact : goal.returns-in-Ok-clause-exact
returns-in-Ok-clause-exact c = λ bodies fault h.
    let inside = c.self.inside in
    let live = subst (λ (v : ReaderView). v.live ≡ true) (sym c.self.view_is) c.requires.live in
    let on = subst (λ (v : ReaderView). ReadsOn v.limit v.kept c.args.piece.now bodies (Broken fault)) (sym c.self.view_is) h in
    let other = reads_held inside.standing inside.begun inside.limit c.args.piece.now bodies fault live on in
    absurd (begun_or_broken inside.limit (held_bytes inside.begun ++ c.args.piece.now) c.read.new.done.items bodies (held_bytes c.read.new.self) fault c.in-Ok.ensures.read other)

pub returns-in-Err-Fault-clause-exact : goal.returns-in-Err-Fault-clause-exact
returns-in-Err-Fault-clause-exact c = λ bodies fault h.
    let inside = c.self.inside in
    let live = subst (λ (v : ReaderView). v.live ≡ true) (sym c.self.view_is) c.requires.live in
    let on = subst (λ (v : ReaderView). ReadsOn v.limit v.kept c.args.piece.now bodies (Broken fault)) (sym c.self.view_is) h in
    let other = reads_held inside.standing inside.begun inside.limit c.args.piece.now bodies fault live on in
    let met = c.in-Err-Fault.ensures.fault c.in-Err-Fault.fault (ap stopped c.in-Err-Fault.field-0-is) in
    let same = one_fault inside.limit (held_bytes inside.begun ++ c.args.piece.now) c.read.new.done.items bodies c.in-Err-Fault.fault fault met other in
    inl (ap ended (c.from.ensures ∙ ap answer_of same))
