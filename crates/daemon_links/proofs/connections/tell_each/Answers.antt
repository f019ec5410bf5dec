use Rattle.std.proofs.lemmas.Map.Iter.{rest_more}
use Rattle.daemon_links.proofs.TellLemmas.{one_more}
use Rattle.daemon_links.proofs.connections.tell_each.Goals as goal

pub loop-number-preserved-in_ok-insert : goal.loop-number-preserved-in_ok-insert
loop-number-preserved-in_ok-insert c = (
  tt,
  tt,
  one_more c.args.base.now c.args.change.now c.args.text.now c.args.connections.entries c.loop-number.told.entries c.loop-number.number-iterator
      c.next.new.self c.insert.new.self.entries c.in-Some.number c.in-Some.links c.tell.new.self _ _ _
      (rest_more (λ x. x) c.loop-number.number-iterator c.next.new.self c.next.result (c.in-Some.number, c.in-Some.links) c.in-Some.is c.next.ensures.steps)
      c.loop-number.invariant.2 c.in_ok-tell.ensures.links c.in_ok-insert.ensures.entries c.in_ok-tell.ensures.sent c.in_ok-tell.ensures.read,
)

pub loop-number-preserved : goal.loop-number-preserved
loop-number-preserved c = (
  tt,
  tt,
  one_more c.args.base.now c.args.change.now c.args.text.now c.args.connections.entries c.loop-number.told.entries c.loop-number.number-iterator
      c.next.new.self c.insert.new.self.entries c.in-Some.number c.in-Some.links c.tell.new.self _ _ _
      (rest_more (λ x. x) c.loop-number.number-iterator c.next.new.self c.next.result (c.in-Some.number, c.in-Some.links) c.in-Some.is c.next.ensures.steps)
      c.loop-number.invariant.2 c.in_ok-tell.ensures.links c.in_ok-insert.ensures.entries c.in_ok-tell.ensures.sent c.in_ok-tell.ensures.read,
)
