-- The body that is taken out is the one that was held.
use Rattle.std.proofs.Common.{◌≡◌, ℕ, List, subst, sym, ap, ◌∙◌}
use Rattle.rpc_frame.specs.Held.{IsHeld, IsReachedAt, held_bytes}
use Rattle.rpc_frame.specs.Stream.{IsFrame}
use Rattle.rpc_frame.specs.declared.begun.FrameBegun.{FrameBegun}
use Rattle.rpc_frame.specs.declared.begun.Stage.{Stage}
use Rattle.rpc_frame.proofs.HeldLemmas.{body_whole}
use Rattle.rpc_frame.proofs.begun.FrameBegun.take_whole.Goals as goal

pub returns-in-Body-clause-held : goal.returns-in-Body-clause-held
returns-in-Body-clause-held c = subst (IsHeld c.args.limit) (sym c.replace-begun.ensures.after) (c.new.ensures.held c.args.limit)

pub returns-in-Body-clause-some : goal.returns-in-Body-clause-some
returns-in-Body-clause-some c =
    let begun = c.args.self.now in
    let body : c.from_vec.result ≡ begun.body.items = c.from_vec.ensures ∙ ap (λ (b : FrameBegun). b.body.items) c.replace-begun.ensures.value in
    let at = subst (λ (stage : Stage). IsReachedAt c.args.limit stage begun.head.items begun.body.items) c.in-Body.is c.requires.reached.at in (
      subst (λ (xs : List ℕ). IsFrame c.args.limit xs (held_bytes begun)) (sym body) (body_whole c.args.limit c.in-Body.number begun.head.items begun.body.items at (sym begun.body.ok.0
          ∙ (sym c.len.ensures ∙ c.if-len-number.true))),
      ap held_bytes c.replace-begun.ensures.after ∙ c.new.ensures.bytes,
    )
