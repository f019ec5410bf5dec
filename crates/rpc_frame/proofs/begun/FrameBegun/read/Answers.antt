-- A turn more of the reading, or its fault.
use Rattle.std.proofs.Common.{◌≡◌, ◌+◌, ◌-◌, ℕ, List, [], ◌++◌, length, take, drop, Result, Err, sym, ◌∙◌, ap, subst, arith, append_assoc, length-drop}
use Rattle.std.proofs.Math.Seq.{take-add}
use Rattle.std.proofs.lemmas.List.{append-nil, take-append-drop}
use Rattle.std.proofs.lemmas.Result.{err_from_is_err_and}
use Rattle.rpc_frame.specs.Held.{held_bytes}
use Rattle.rpc_frame.specs.Stream.{HasFault, Reads, Begun, Broken}
use Rattle.rpc_frame.specs.declared.faults.FrameFault.{FrameFault}
use Rattle.rpc_frame.specs.declared.begun.Stop.{Stop}
use Rattle.rpc_frame.specs.declared.begun.Stop.TheVariants.{Fault}
use Rattle.rpc_frame.proofs.HeldLemmas.{held_begun}
use Rattle.rpc_frame.proofs.Readings.{reads_none, reads_fault}
use Rattle.rpc_frame.proofs.Slices.{slice_rest}
use Rattle.rpc_frame.proofs.begun.FrameBegun.read.Goals as goal

-- the turn stopped by
abbrev stopped : Stop → Result ℕ Stop
stopped stop = Err stop

-- the fault that is answered is that of the turn
same_stop : (r : Result (Unit {0}) Stop) (x y : Stop) (fault : FrameFault) → r ≡ Err x → x ≡ y → r ≡ Err (Fault fault) → y ≡ Fault fault
same_stop r x y fault e k h = cc

pub loop-at-init : goal.loop-at-init
loop-at-init c =
    let limit = c.args.limit in
    let kept = held_bytes c.args.self.now in
    let none = reads_none limit kept (held_begun limit c.args.self.now c.requires.held) in
    let whole = subst (λ (xs : List ℕ). Reads limit xs [] (Begun kept)) (sym (append-nil kept)) none in
    record {
      within = omega arith;
      held = c.requires.held;
      read = subst (λ (bodies : List (List ℕ)). Reads limit (kept ++ []) bodies (Begun kept)) (sym c.requires.none) whole;
    }

pub returns-in_err-at-clause-fault : goal.returns-in_err-at-clause-fault
returns-in_err-at-clause-fault c = λ fault e.
    let limit = c.args.limit in
    let front = take c.loop-at.at c.args.piece.now in
    let rest = drop c.loop-at.at c.args.piece.now in
    let slice = slice_rest c.loop-at.at c.args.piece.now in
    let kept = held_bytes c.args.self.now in
    let p = err_from_is_err_and c.from_residual.result c.from_residual.ensures.1 in
    let is = ap stopped (same_stop c.from_residual.result p.0 c.in_err-at.field-0.0 fault p.1 p.2 e) in
    let broken = subst (λ (xs : List ℕ). HasFault limit fault (held_bytes c.loop-at.self ++ xs)) slice (c.in_err-at.ensures.fault fault is) in
    let read = reads_fault limit (kept ++ front) (held_bytes c.loop-at.self) rest c.loop-at.done.items fault c.loop-at.invariant.read broken in
    let stream : (kept ++ front) ++ rest ≡ kept ++ c.args.piece.now = append_assoc kept front rest ∙ ap (λ xs. kept ++ xs) (take-append-drop c.loop-at.at c.args.piece.now) in
    subst (λ (xs : List ℕ). Reads limit xs c.turn.new.done.items (Broken fault)) stream
    (subst (λ (bodies : List (List ℕ)). Reads limit ((kept ++ front) ++ rest) bodies (Broken fault)) (sym (c.in_err-at.ensures.kept fault is)) read)

pub loop-at-preserved : goal.loop-at-preserved
loop-at-preserved c =
    let limit = c.args.limit in
    let kept = held_bytes c.args.self.now in
    let piece = c.args.piece.now in
    let count = c.in_ok-at.field-0 in
    let front = take c.loop-at.at piece in
    let read = c.in_ok-at.ensures.read (kept ++ front) c.loop-at.invariant.read in
    let stream : (kept ++ front) ++ take count (take (length piece - c.loop-at.at) (drop c.loop-at.at piece)) ≡ kept ++ take (c.loop-at.at + count) piece =
    ap (λ xs. (kept ++ front) ++ take count xs) (slice_rest c.loop-at.at piece)
    ∙ (append_assoc kept front (take count (drop c.loop-at.at piece)) ∙ ap (λ xs. kept ++ xs) (sym (take-add c.loop-at.at count piece))) in
    record {
      within = omega (arith, c.in_ok-at.ensures.count.1, c.loop-at.invariant.within, length-drop c.loop-at.at piece);
      held = c.in_ok-at.ensures.held;
      read = subst (λ (xs : List ℕ). Reads limit xs c.turn.new.done.items (Begun (held_bytes c.turn.new.self))) stream read;
    }
