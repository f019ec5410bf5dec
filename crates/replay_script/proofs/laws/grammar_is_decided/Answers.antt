use Rattle.replay_script.proofs.LineGrammar.{grammar_decided}
use Rattle.replay_script.proofs.laws.grammar_is_decided.Goals as goal

pub returns : goal.returns
returns c = grammar_decided
