use Rattle.std.proofs.Common.{IsTrue, subst}
use Rattle.replica_disk.proofs.StoreLemmas.{was_live}
use Rattle.replica_disk.proofs.Learns.{learns_so, refuses_so, store_so}
use Rattle.replica_disk.proofs.stores.Store.learn.Goals as goal

pub invariant_of-self : goal.invariant_of-self
invariant_of-self g c = λ on.
    let live = was_live _ _ c.self.view_is c.requires.live in
    let kept = c.self.invariant live in (
      c.hold-answer.ensures.live (subst IsTrue c.goes_on-self-inside.ensures on),
      store_so _ live c.args.change c.hold-answer.new.replica.history c.hold-answer.new.staged c.goes_on-self-inside.result c.hold-answer.result c.goes_on-self-inside.ensures
          c.hold-answer.ensures.learnt c.hold-answer.ensures.fault kept.1 on,
    )

pub returns-clause-learnt : goal.returns-clause-learnt
returns-clause-learnt g c =
    let live = was_live _ _ c.self.view_is c.requires.live in
    rw (← c.self.view_is)
    (learns_so _ live c.args.change c.hold-answer.new.replica.history c.hold-answer.new.staged c.goes_on-self-inside.result c.hold-answer.result c.goes_on-self-inside.ensures
    c.hold-answer.ensures.learnt)

pub returns-clause-fault : goal.returns-clause-fault
returns-clause-fault g c =
    let live = was_live _ _ c.self.view_is c.requires.live in
    rw (← c.self.view_is)
    (refuses_so _ live c.args.change c.hold-answer.new.replica.history c.hold-answer.new.staged c.goes_on-self-inside.result c.hold-answer.result c.goes_on-self-inside.ensures
    c.hold-answer.ensures.fault)
