use Rattle.transform.proofs.MergedLemmas.{list_stays_chain, base_length-past_list, result_length-past_list}
use Rattle.transform.proofs.laws.carried_lists_have_lengths.Goals as goal

pub returns-clause-chain : goal.returns-clause-chain
returns-clause-chain c = list_stays_chain

pub returns-clause-base : goal.returns-clause-base
returns-clause-base c = base_length-past_list

pub returns-clause-result : goal.returns-clause-result
returns-clause-result c = result_length-past_list
