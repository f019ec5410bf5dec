use Rattle.std.proofs.Common.{◌≡◌, ◌∷◌, drop, refl, sym, ap, ◌∙◌, subst, arith}
use Rattle.std.proofs.lemmas.Result.{err_from_is_err_and, IfErr-at_err}
use Rattle.editor_seat.specs.declared.faults.DeliverFault.TheVariants.{NoMessage}
use Rattle.rpc_message.specs.Replies.{IsReply}
use Rattle.editor_client.specs.Hearing.{IsHeard}
use Rattle.editor_client.specs.declared.notes.HeardNote.{HeardNote}
use Rattle.frame_world.specs.Seats.{Seat, IsDelivered}
use Rattle.kept_world.specs.Worlds.{KeptEditor}
use Rattle.editor_seat.specs.Delivering.{IsFaultOf, IsFaultOfFrame, BeginsWithNoMessage}
use Rattle.editor_seat.proofs.SeatLemmas.{begins_with}
use Rattle.editor_seat.proofs.DeliveryLemmas.{not_delivered, only_delivered, fault_of_first}
use Rattle.editor_seat.proofs.seats.EditorSeat.deliver.Goals as goal

pub returns-in_err-body-clause-fault : goal.returns-in_err-body-clause-fault
returns-in_err-body-clause-fault c =
    let first = begins_with c.self.inside.down.items c.in-Some.frame.now (grind arith) c.in-Some.ensures.lookup in
    let p = err_from_is_err_and c.from_residual.result c.from_residual.ensures.1 in
    rw p.1 (fault_of_first c.args.self.now.seat c.in-Some.frame.now (drop 1 c.self.inside.down.items) p.0 (sym (ap (λ (k : KeptEditor). k.seat.down) c.self.view_is) ∙ first)
    (subst (IsFaultOfFrame c.in-Some.frame.now) (sym p.2) c.in_err-body.ensures.fault))

pub returns-in_err-body-clause-only : goal.returns-in_err-body-clause-only
returns-in_err-body-clause-only c =
    let p = err_from_is_err_and c.from_residual.result c.from_residual.ensures.1 in
    rw p.1 (not_delivered c.args.self.now.seat p.0 (IfErr-at_err (IsFaultOf c.args.self.now.seat) p.1 (returns-in_err-body-clause-fault c)))

pub returns-in-Ok-clause-delivered : goal.returns-in-Ok-clause-delivered
returns-in-Ok-clause-delivered c =
    let rest = c.pop_front.new.self.items in
    subst (λ (k : KeptEditor). IsDelivered k.seat c.in-Ok.note (record { client = c.hear.new.self; up = c.self.inside.up.items; down = rest })) c.self.view_is
    (record {
      frame = c.in-Some.frame.now;
      rest = rest;
      first = begins_with c.self.inside.down.items c.in-Some.frame.now (grind arith) c.in-Some.ensures.lookup ∙ ap (λ r. c.in-Some.frame.now ∷ r) (sym c.pop_front.ensures.rest);
      body = c.in_ok-body.body;
      left = c.in_ok-body.ensures.body.left;
      reads = c.in_ok-body.ensures.body.reads;
      heard = subst (λ b. IsHeard b c.self.inside.client c.in-Ok.note c.hear.new.self) c.as_slice.ensures c.in-Ok.ensures.heard;
      up = refl;
      down = refl;
    })

pub returns-in-Ok-clause-only : goal.returns-in-Ok-clause-only
returns-in-Ok-clause-only c =
    let rest = c.pop_front.new.self.items in
    let before : Seat = record { client = c.self.inside.client; up = c.self.inside.up.items; down = c.self.inside.down.items } in
    let first = begins_with c.self.inside.down.items c.in-Some.frame.now (grind arith) c.in-Some.ensures.lookup ∙ ap (λ r. c.in-Some.frame.now ∷ r) (sym c.pop_front.ensures.rest) in
    let left : Seat = record { client = c.hear.new.self; up = c.self.inside.up.items; down = rest } in
    subst (λ (k : KeptEditor). (note : HeardNote) (after : Seat) → IsDelivered k.seat note after → (c.in-Ok.note ≡ note) × (left ≡ after)) c.self.view_is
    (only_delivered before c.in-Some.frame.now c.in_ok-body.body rest c.in-Ok.note c.hear.new.self first c.in_ok-body.ensures.body
    (λ message reply. c.in-Ok.ensures.only message (subst (λ b. IsReply b message) (sym c.as_slice.ensures) reply)))

pub returns-in-Err-Refused-clause-fault : goal.returns-in-Err-Refused-clause-fault
returns-in-Err-Refused-clause-fault c =
    subst (λ (k : KeptEditor). BeginsWithNoMessage k.seat.down) c.self.view_is
    (record {
      frame = c.in-Some.frame.now;
      rest = drop 1 c.self.inside.down.items;
      first = begins_with c.self.inside.down.items c.in-Some.frame.now (grind arith) c.in-Some.ensures.lookup;
      body = c.in_ok-body.body;
      one = c.in_ok-body.ensures.body;
      no_message = λ message reply. let e = c.in-Err-Refused.ensures.only message (subst (λ b. IsReply b message) (sym c.as_slice.ensures) reply) in cc;
    })

pub returns-in-Err-Refused-clause-only : goal.returns-in-Err-Refused-clause-only
returns-in-Err-Refused-clause-only c = not_delivered c.args.self.now.seat NoMessage (returns-in-Err-Refused-clause-fault c)
