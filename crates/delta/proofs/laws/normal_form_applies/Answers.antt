use Rattle.delta.proofs.LawLemmas.{applied-normal}
use Rattle.delta.proofs.laws.normal_form_applies.Goals as goal

pub returns : goal.returns
returns c = applied-normal
