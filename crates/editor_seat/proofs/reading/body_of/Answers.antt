use Rattle.std.proofs.Common.{length, sym, ap, ◌∙◌, arith}
use Rattle.editor_seat.proofs.SeatLemmas.{only_item}
use Rattle.editor_seat.proofs.DeliveryLemmas.{no_other, one_read}
use Rattle.editor_seat.proofs.reading.body_of.Goals as goal

pub returns-in_default-clause-fault : goal.returns-in_default-clause-fault
returns-in_default-clause-fault c = λ body one.
    let e = no_other c.args.frame.now _ _ c.from_ref.ensures.value (λ others end r. (c.in_ok-read.ensures.only others end r).0) body one in
    absurd (grind (arith, ap length e))

pub returns-then-not-is_empty-clause-fault : goal.returns-then-not-is_empty-clause-fault
returns-then-not-is_empty-clause-fault c = λ body one.
    let e = no_other c.args.frame.now _ _ c.from_ref.ensures.value (λ others end r. (c.in_ok-read.ensures.only others end r).0) body one in
    absurd (grind (arith, ap length e))

pub returns-clause-body : goal.returns-clause-body
returns-clause-body c =
    one_read c.args.frame.now c.in-Some.body _ _ _ c.from_ref.ensures.value c.in_ok-read.ensures.read
    (sym c.into_vec-bodies.ensures ∙ c.in-Some.ensures.items ∙ only_item c.pop.new.self.items c.in-Some.body (grind arith))
