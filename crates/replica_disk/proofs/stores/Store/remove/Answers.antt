use Rattle.std.proofs.Common.{IsTrue, subst}
use Rattle.replica_disk.proofs.StoreLemmas.{was_live}
use Rattle.replica_disk.proofs.Makes.{makes, does_not_remove, store_again}
use Rattle.replica_disk.proofs.stores.Store.remove.Goals as goal

pub invariant_of-self : goal.invariant_of-self
invariant_of-self g c = λ on.
    let live = was_live _ _ c.self.view_is c.requires.live in
    let kept = c.self.invariant live in (
      c.hold_removed-answer.ensures.live (subst IsTrue c.is_of_use-self-inside.ensures on),
      store_again _ live c.hold_removed-answer.new.replica.history c.hold_removed-answer.new.staged c.is_of_use-self-inside.result c.hold_removed-answer.result
          c.is_of_use-self-inside.ensures _ c.hold_removed-answer.ensures.made c.hold_removed-answer.ensures.same kept.1 on,
    )

pub returns-clause-removed : goal.returns-clause-removed
returns-clause-removed g c =
    let live = was_live _ _ c.self.view_is c.requires.live in
    rw (← c.self.view_is)
    (makes _ live c.hold_removed-answer.new.replica.history c.hold_removed-answer.new.staged c.is_of_use-self-inside.result c.hold_removed-answer.result
    c.is_of_use-self-inside.ensures _ c.hold_removed-answer.ensures.made)

pub returns-clause-fault : goal.returns-clause-fault
returns-clause-fault g c =
    let live = was_live _ _ c.self.view_is c.requires.live in
    rw (← c.self.view_is)
    (does_not_remove _ live c.hold_removed-answer.new.replica.history c.hold_removed-answer.new.staged c.is_of_use-self-inside.result
    c.hold_removed-answer.result c.is_of_use-self-inside.ensures c.args.path.now c.hold_removed-answer.ensures.fault c.hold_removed-answer.ensures.same)
