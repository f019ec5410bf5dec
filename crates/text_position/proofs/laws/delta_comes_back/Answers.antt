use Rattle.text_position.proofs.StepsOfLemmas.{delta_comes_back, edits_are_apart}
use Rattle.text_position.proofs.laws.delta_comes_back.Goals as goal

pub returns-clause-back : goal.returns-clause-back
returns-clause-back c = delta_comes_back

pub returns-clause-apart : goal.returns-clause-apart
returns-clause-apart c = edits_are_apart
