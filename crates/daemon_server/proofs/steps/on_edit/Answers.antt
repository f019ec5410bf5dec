use Rattle.std.proofs.Common.{sym}
use Rattle.daemon_server.proofs.EditLemmas.{edit_none}
use Rattle.daemon_server.proofs.steps.on_edit.Goals as goal

pub returns-in_default : goal.returns-in_default
returns-in_default c =
    edit_none c.args.base.now c.args.files.now c.args.own.now c.close.new.self c.args.uri.now c.in_ok-path.path c.args.seen c.args.edits.now
    c.in_ok-path.ensures.ok c.in_default.ensures.link c.close.ensures.gone

pub edit_by-requires-clause-linked : goal.edit_by-requires-clause-linked
edit_by-requires-clause-linked c = c.requires.linked.linked c.in_ok-path.path _ (sym c.in-Some.ensures.link)
