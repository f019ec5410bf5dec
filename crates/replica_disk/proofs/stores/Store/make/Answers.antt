use Rattle.std.proofs.Common.{IsTrue, subst, sym}
use Rattle.std.proofs.lemmas.Result.{IfOk-weaker}
use Rattle.replica_disk.proofs.StoreLemmas.{was_live}
use Rattle.replica_disk.proofs.Makes.{makes, makes_only, does_not_make, store_again}
use Rattle.replica_store.specs.Store.{StoreView}
use Rattle.replica_store.specs.Calls.{CanMake}
use Rattle.replica_disk.proofs.stores.Store.make.Goals as goal

pub invariant_of-self : goal.invariant_of-self
invariant_of-self g c = λ on.
    let live = was_live _ _ c.self.view_is c.requires.live in
    let kept = c.self.invariant live in (
      c.hold_made-answer.ensures.live (subst IsTrue c.is_of_use-self-inside.ensures on),
      store_again _ live c.hold_made-answer.new.replica.history c.hold_made-answer.new.staged c.is_of_use-self-inside.result c.hold_made-answer.result
          c.is_of_use-self-inside.ensures _ c.hold_made-answer.ensures.made c.hold_made-answer.ensures.same kept.1 on,
    )

pub returns-clause-made : goal.returns-clause-made
returns-clause-made g c =
    let live = was_live _ _ c.self.view_is c.requires.live in
    rw (← c.self.view_is)
    (makes _ live c.hold_made-answer.new.replica.history c.hold_made-answer.new.staged c.is_of_use-self-inside.result c.hold_made-answer.result
    c.is_of_use-self-inside.ensures _ c.hold_made-answer.ensures.made)

pub returns-clause-effects : goal.returns-clause-effects
returns-clause-effects g c =
    let live = was_live _ _ c.self.view_is c.requires.live in
    let kept = c.self.invariant live in
    IfOk-weaker c.hold_made-answer.result _ _
    (λ making is.
    makes_only _ _ c.args.path.now c.args.d.now making kept.1
    (subst (λ (s : StoreView _). CanMake s c.args.path.now c.args.d.now) (sym c.self.view_is) c.requires.base) c.normal_form.ensures is)
    (makes _ live c.hold_made-answer.new.replica.history c.hold_made-answer.new.staged c.is_of_use-self-inside.result c.hold_made-answer.result
    c.is_of_use-self-inside.ensures _ c.hold_made-answer.ensures.made)

pub returns-clause-fault : goal.returns-clause-fault
returns-clause-fault g c =
    let live = was_live _ _ c.self.view_is c.requires.live in
    rw (← c.self.view_is)
    (does_not_make _ live c.hold_made-answer.new.replica.history c.hold_made-answer.new.staged c.is_of_use-self-inside.result c.hold_made-answer.result
    c.is_of_use-self-inside.ensures c.args.path.now c.args.d.now c.hold_made-answer.ensures.fault c.hold_made-answer.ensures.same)
