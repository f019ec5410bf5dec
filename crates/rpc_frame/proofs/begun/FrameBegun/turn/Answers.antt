-- The reading goes on by a frame that ends, or by more bytes of the frame begun.
use Rattle.std.proofs.Common.{◌≡◌, ℕ, List, [], ◌++◌, take, sym, ◌∙◌, subst}
use Rattle.rpc_frame.specs.Held.{held_bytes}
use Rattle.rpc_frame.specs.Stream.{IsFrame, IsFrameBegun, Reads, Begun}
use Rattle.rpc_frame.proofs.HeldLemmas.{held_begun}
use Rattle.rpc_frame.proofs.Readings.{reads_begun, reads_frame}
use Rattle.rpc_frame.proofs.begun.FrameBegun.turn.Goals as goal

pub returns-in_ok-push-clause-read : goal.returns-in_ok-push-clause-read
returns-in_ok-push-clause-read c = λ stream r.
    let limit = c.args.limit in
    let taken = take c.in_ok-count.count c.args.rest.now in
    let kept = held_bytes c.args.self.now in
    let some = c.in-Some.ensures.some in
    let frame = subst (λ (xs : List ℕ). IsFrame limit c.in-Some.body xs) c.in_ok-count.ensures.bytes some.0 in
    let begun = subst (λ (xs : List ℕ). IsFrameBegun limit xs) some.1 (held_begun limit c.take_whole.new.self c.in-Some.ensures.held) in
    let read = reads_frame limit stream kept taken c.in-Some.body c.args.done.now.items r frame begun in
    subst (λ (xs : List ℕ). Reads limit (stream ++ taken) c.push.new.self.items (Begun xs)) (sym some.1)
    (subst (λ (bodies : List (List ℕ)). Reads limit (stream ++ taken) bodies (Begun [])) (sym c.in_ok-push.ensures.items) read)

pub returns-in_default-clause-read : goal.returns-in_default-clause-read
returns-in_default-clause-read c = λ stream r.
    let limit = c.args.limit in
    let taken = take c.in_ok-count.count c.args.rest.now in
    let kept = held_bytes c.args.self.now in
    let same : held_bytes c.take_whole.new.self ≡ kept ++ taken = c.in_default.ensures.none ∙ c.in_ok-count.ensures.bytes in
    let begun = subst (λ (xs : List ℕ). IsFrameBegun limit xs) same (held_begun limit c.take_whole.new.self c.in_default.ensures.held) in
    subst (λ (xs : List ℕ). Reads limit (stream ++ taken) c.args.done.now.items (Begun xs)) (sym same)
    (reads_begun limit stream kept taken c.args.done.now.items r begun)
