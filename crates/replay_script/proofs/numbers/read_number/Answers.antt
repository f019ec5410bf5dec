use Rattle.std.proofs.Common.{sym, ◌∙◌}
use Rattle.replay_script.proofs.Numerals.{number_padded, number_parsed}
use Rattle.replay_script.proofs.numbers.read_number.Goals as goal

pub returns-then-is_padded : goal.returns-then-is_padded
returns-then-is_padded c = sym (number_padded c.args.text.now (sym c.is_padded.ensures ∙ c.if-is_padded.true))

pub returns : goal.returns
returns c = c.ok.ensures.value ∙ number_parsed c.args.text.now c.parse.result (sym c.is_padded.ensures ∙ c.if-is_padded.false) c.parse.ensures.value.0
