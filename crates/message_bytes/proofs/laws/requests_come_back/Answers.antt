use Rattle.message_bytes.proofs.BodyLemmas.{request_comes_back}
use Rattle.message_bytes.proofs.laws.requests_come_back.Goals as goal

pub returns : goal.returns
returns c = request_comes_back
