use Rattle.std.proofs.Common.{sym, subst}
use Rattle.message_steps.specs.Asking.{desk}
use Rattle.message_steps.specs.Following.{Asked, Follows}
use Rattle.message_steps.proofs.EditLemmas.{edit_none, edit_by_link}
use Rattle.message_steps.proofs.steps.on_edit.Goals as goal

pub returns-in_default : goal.returns-in_default
returns-in_default c = λ view enough.
    edit_none c.args.base.now view c.args.own.now c.close.new.self c.args.uri.now c.in_ok-path.path c.args.seen c.args.edits.now
    c.in_ok-path.ensures.ok c.in_default.ensures.link c.close.ensures.gone

pub edit_by-requires-clause-linked : goal.edit_by-requires-clause-linked
edit_by-requires-clause-linked c = c.requires.linked.linked c.in_ok-path.path _ (sym c.in-Some.ensures.link)

pub returns : goal.returns
returns c = λ view enough.
    subst (λ (asked : Asked). Follows c.args.files.now (desk c.args.base.now view c.args.own.now) asked c.edit_by.new.own c.edit_by.result)
    (sym
    (edit_by_link c.args.base.now view c.args.own.now c.args.uri.now c.in_ok-path.path c.args.seen c.args.edits.now c.in-Some.link
    c.in_ok-path.ensures.ok c.in-Some.ensures.link))
    (c.edit_by.ensures c.args.own.now view c.in-Some.ensures.link c.close.ensures.ordered c.close.ensures.gone
    (enough.linked c.in_ok-path.path c.in-Some.link (sym c.in-Some.ensures.link)))
