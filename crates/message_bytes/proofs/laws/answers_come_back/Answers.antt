use Rattle.message_bytes.proofs.BodyLemmas.{answer_comes_back}
use Rattle.message_bytes.proofs.laws.answers_come_back.Goals as goal

pub returns : goal.returns
returns c = answer_comes_back
