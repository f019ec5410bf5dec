use Rattle.delta.proofs.LawLemmas.{applied-nothing}
use Rattle.delta.proofs.laws.empty_delta_applies.Goals as goal

pub returns : goal.returns
returns c = applied-nothing
