use Rattle.delta.proofs.NormalLemmas.{base_length-normal, result_length-normal}
use Rattle.delta.proofs.laws.normal_form_has_lengths.Goals as goal

pub returns-clause-base : goal.returns-clause-base
returns-clause-base c = base_length-normal

pub returns-clause-result : goal.returns-clause-result
returns-clause-result c = result_length-normal
