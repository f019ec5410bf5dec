-- One byte of a header part is taken, or refused with its fault.
use Rattle.std.proofs.Common.{ℕ, List, ◌++◌, get_or, drop, sym, subst}
use Rattle.std.proofs.lemmas.Result.{on_ok_weaker}
use Rattle.rpc_frame.specs.Held.{IsReachedAt, held_bytes}
use Rattle.rpc_frame.specs.Stream.{HasFault}
use Rattle.rpc_frame.specs.declared.begun.Stage.{Stage}
use Rattle.rpc_frame.proofs.HeldLemmas.{taken_reached, refused}
use Rattle.rpc_frame.proofs.Slices.{first-rest}
use Rattle.rpc_frame.proofs.begun.FrameBegun.take_bytes.Goals as goal

pub returns-in-Head-clause-reached : goal.returns-in-Head-clause-reached
returns-in-Head-clause-reached c =
    let at = subst (λ (stage : Stage). IsReachedAt c.args.limit stage c.args.self.now.head.items c.args.self.now.body.items) c.in-Head.is c.requires.held.at in
    on_ok_weaker c.take_head_byte.result (λ d. taken_reached c.args.limit (get_or c.args.rest.now 0 0) c.in-Head.scan c.args.self.now c.take_head_byte.new.self at d) c.take_head_byte.ensures.ok

pub returns-in-Head-clause-fault : goal.returns-in-Head-clause-fault
returns-in-Head-clause-fault c = λ fault e.
    let at = subst (λ (stage : Stage). IsReachedAt c.args.limit stage c.args.self.now.head.items c.args.self.now.body.items) c.in-Head.is c.requires.held.at in
    let at_byte = refused c.args.limit (get_or c.args.rest.now 0 0) c.in-Head.scan c.args.self.now fault (drop 1 c.args.rest.now) at (c.take_head_byte.ensures.fault fault e) in
    subst (λ (xs : List ℕ). HasFault c.args.limit fault (held_bytes c.args.self.now ++ xs)) (sym (first-rest c.args.rest.now c.requires.some)) at_byte
