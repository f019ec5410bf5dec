use Rattle.delta.proofs.ComposedLemmas.{IsNormal-composed, base_length-composed}
use Rattle.delta.proofs.LawLemmas.{result_length-composed}
use Rattle.delta.proofs.laws.composition_has_lengths.Goals as goal

pub returns-clause-normal : goal.returns-clause-normal
returns-clause-normal c = IsNormal-composed

pub returns-clause-base : goal.returns-clause-base
returns-clause-base c = base_length-composed

pub returns-clause-result : goal.returns-clause-result
returns-clause-result c = result_length-composed
