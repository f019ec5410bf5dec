use Rattle.replay_script.proofs.LineGrammar.{lines_unambiguous}
use Rattle.replay_script.proofs.laws.lines_are_unambiguous.Goals as goal

pub returns : goal.returns
returns c = lines_unambiguous
