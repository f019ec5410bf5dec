use Rattle.transform.proofs.MergedLemmas.{list_both_ways}
use Rattle.transform.proofs.laws.list_both_ways_are_one.Goals as goal

pub returns : goal.returns
returns c = list_both_ways
