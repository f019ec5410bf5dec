use Rattle.std.proofs.lemmas.Result.{err_from_is_err_and}
use Rattle.daemon_server.proofs.StepLemmas.{stops_as}
use Rattle.daemon_server.proofs.EditLemmas.{edit_too_long, edit_done}
use Rattle.daemon_server.proofs.steps.edit_by.Goals as goal

pub returns-in_err-may_grow : goal.returns-in_err-may_grow
returns-in_err-may_grow c = λ links found sorted gone.
    let p = err_from_is_err_and c.from_residual-in_err-may_grow.result c.from_residual-in_err-may_grow.ensures.1 in
    rw (p.1, p.2)
    (stops_as
    (edit_too_long c.args.base.now c.args.files.now links c.args.own.now c.args.path c.args.link c.args.seen c.args.edits.now c.in_ok-edit.edit
    c.length_at.result c.result_length.result c.requires.linked c.in_ok-edit.ensures
    (record { before_is = c.length_at.ensures; after_is = c.result_length.ensures }) gone)
    c.in_err-may_grow.field-0.0 c.in_err-may_grow.ensures.stop)

pub returns : goal.returns
returns c = λ links found sorted gone.
    edit_done c.args.base.now c.args.files.now links c.args.own.now c.open.new.self c.args.path c.in_ok-copied.field-0 c.args.link c.args.seen c.args.edits.now c.in_ok-edit.edit
    c.length_at.result c.result_length.result c.in_ok-messages.messages c.requires.linked c.in_ok-edit.ensures
    (record { before_is = c.length_at.ensures; after_is = c.result_length.ensures }) c.in_ok-may_grow.ensures.ok c.in_ok-messages.ensures found sorted gone
    c.in_ok-copied.ensures c.in_ok-open.ensures.ok
