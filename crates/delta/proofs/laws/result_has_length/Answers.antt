use Rattle.delta.proofs.LawLemmas.{length-applied}
use Rattle.delta.proofs.laws.result_has_length.Goals as goal

pub returns : goal.returns
returns c = length-applied
