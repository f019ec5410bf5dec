use Rattle.std.proofs.lemmas.Result.{on_ok_weaker, on_err_weaker}
use Rattle.daemon_links.proofs.FileLemmas.{text_changed, text_kept}
use Rattle.daemon_links.proofs.files.change_text.Goals as goal

pub returns-in-Some-clause-ok : goal.returns-in-Some-clause-ok
returns-in-Some-clause-ok c =
    on_ok_weaker c.apply_at_once.result
    (text_changed c.args.path.now c.in-Some.text.now c.apply_at_once.new.text c.args.d.now c.args.texts.now.entries _
    c.get_mut.ensures.ordered c.in-Some.ensures.value (c.get_mut.follows.holds c.apply_at_once.new.text).0)
    c.apply_at_once.ensures.ok

pub returns-in-Some-clause-err : goal.returns-in-Some-clause-err
returns-in-Some-clause-err c =
    on_err_weaker c.apply_at_once.result
    (text_kept c.args.path.now c.in-Some.text.now c.apply_at_once.new.text c.args.texts.now.entries _ c.in-Some.ensures.value
    (c.get_mut.follows.holds c.apply_at_once.new.text).0)
    c.apply_at_once.ensures.err
