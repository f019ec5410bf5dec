use Rattle.std.proofs.Common.{None, Some, sym, lit<}
use Rattle.std.proofs.lemmas.Str.Pattern.{strip_prefix_char}
use Rattle.replay_script.proofs.QuoteCuts.{not_quoted, split_quotes}
use Rattle.replay_script.proofs.quotes.between_quotes.Goals as goal

pub returns-in_err-strip_prefix : goal.returns-in_err-strip_prefix
returns-in_err-strip_prefix c =
    rw c.from_residual.ensures (sym (not_quoted c.args.text.now (strip_prefix_char 34 c.args.text.now None c.in_err-strip_prefix.ensures.cases (lit< tt))))

pub returns : goal.returns
returns c =
    let begins = strip_prefix_char 34 c.args.text.now (Some c.in_ok-strip_prefix.field-0) c.in_ok-strip_prefix.ensures.cases (lit< tt) in
    split_quotes c.args.text.now c.in_ok-strip_prefix.field-0.now c.rsplit_once.result begins c.rsplit_once.ensures.cases
