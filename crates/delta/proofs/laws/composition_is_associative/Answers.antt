use Rattle.delta.proofs.LawLemmas.{composed_assoc}
use Rattle.delta.proofs.laws.composition_is_associative.Goals as goal

pub returns : goal.returns
returns c = composed_assoc
