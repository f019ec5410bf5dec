use Rattle.daemon_core.specs.History as texts
use Rattle.daemon_history.specs.Holding as holds
use Rattle.daemon_history.specs.Shown.{shown}
use Rattle.store_daemon.proofs.CarryLemmas.{enough_held, enough_texts, step_can, carried, carried_refused}
use Rattle.store_daemon.proofs.making.carry_out.Goals as goal

pub make_step-requires-clause-can : goal.make_step-requires-clause-can
make_step-requires-clause-can g c =
    step_can (shown c.args.store.now) c.args.files.now c.args.base.now c.args.own.now c.args.message c.requires.can c.take_step.new.own c.in-Ok.step
    (c.in-Ok.ensures.follows (holds.view_at (shown c.args.store.now))
    (enough_held (shown c.args.store.now) c.args.files.now c.args.base.now c.args.own.now c.args.message c.requires.can))

pub returns-in_ok-done-in-Ok-clause-carries : goal.returns-in_ok-done-in-Ok-clause-carries
returns-in_ok-done-in-Ok-clause-carries g c =
    carried (shown c.args.store.now) c.args.files.now c.args.base.now c.args.own.now c.args.message c.requires.can (shown c.make_step.new.store)
    c.take_step.new.own c.make_step.new.own c.in-Ok.step c.in_ok-done-in-Ok.done
    (c.in-Ok.ensures.follows (holds.view_at (shown c.args.store.now))
    (enough_held (shown c.args.store.now) c.args.files.now c.args.base.now c.args.own.now c.args.message c.requires.can))
    (c.in-Ok.ensures.follows (texts.view_at c.args.files.now)
    (enough_texts (shown c.args.store.now) c.args.files.now c.args.base.now c.args.own.now c.args.message c.requires.can))
    c.in_ok-done-in-Ok.ensures.carries

pub returns-in_ok-done-in-Err-Refused-clause-carries : goal.returns-in_ok-done-in-Err-Refused-clause-carries
returns-in_ok-done-in-Err-Refused-clause-carries g c =
    carried_refused (shown c.args.store.now) c.args.files.now c.args.base.now c.args.own.now c.args.message c.requires.can
    c.take_step.new.own c.in-Err-Refused.refusal c.in-Err-Refused.field-0 c.in_ok-done-in-Err-Refused.done c.in-Err-Refused.field-0-is
    (c.in-Err-Refused.ensures.follows (holds.view_at (shown c.args.store.now))
    (enough_held (shown c.args.store.now) c.args.files.now c.args.base.now c.args.own.now c.args.message c.requires.can))
    (c.in-Err-Refused.ensures.follows (texts.view_at c.args.files.now)
    (enough_texts (shown c.args.store.now) c.args.files.now c.args.base.now c.args.own.now c.args.message c.requires.can))
    c.in_ok-done-in-Err-Refused.ensures.step c.in_ok-done-in-Err-Refused.ensures.notice
