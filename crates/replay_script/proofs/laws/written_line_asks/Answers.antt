use Rattle.replay_script.proofs.LineGrammar.{written_asks}
use Rattle.replay_script.proofs.laws.written_line_asks.Goals as goal

pub returns : goal.returns
returns c = written_asks
