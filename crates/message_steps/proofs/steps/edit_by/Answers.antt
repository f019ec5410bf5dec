use Rattle.std.proofs.lemmas.Result.{err_from_is_err_and}
use Rattle.message_steps.proofs.StepLemmas.{stops_as}
use Rattle.message_steps.proofs.EditLemmas.{edit_too_long, edit_done}
use Rattle.message_steps.proofs.steps.edit_by.Goals as goal

pub returns-in_err-may_grow : goal.returns-in_err-may_grow
returns-in_err-may_grow c = λ links view found sorted gone shows.
    let p = err_from_is_err_and c.from_residual-in_err-may_grow.result c.from_residual-in_err-may_grow.ensures.1 in
    rw (p.1, p.2)
    (stops_as
    (edit_too_long c.args.base.now c.args.files.now view links c.args.path c.args.link c.args.seen c.args.edits.now c.in_ok-edit.edit
    (record { linked = c.requires.linked; taken = c.in_ok-edit.ensures; shows = shows })
    c.length_at.result c.result_length.result (record { before_is = c.length_at.ensures; after_is = c.result_length.ensures }) c.args.own.now gone)
    c.in_err-may_grow.field-0.0 c.in_err-may_grow.ensures.stop)

pub returns : goal.returns
returns c = λ links view found sorted gone shows.
    edit_done c.args.base.now c.args.files.now view links c.args.path c.args.link c.args.seen c.args.edits.now c.in_ok-edit.edit
    (record { linked = c.requires.linked; taken = c.in_ok-edit.ensures; shows = shows })
    c.length_at.result c.result_length.result (record { before_is = c.length_at.ensures; after_is = c.result_length.ensures }) c.open.new.self c.in_ok-messages.messages
    c.in_ok-may_grow.ensures.ok
    (record {
      told = c.in_ok-messages.ensures;
      found = found;
      sorted = sorted;
      between = c.args.own.now;
      gone = gone;
      key = c.in_ok-copied.field-0;
      key_is = c.in_ok-copied.ensures;
      put = c.in_ok-open.ensures.ok;
    })
