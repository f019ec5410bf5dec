use Rattle.replica_text.proofs.FixedLemmas.{tree_is_fixed}
use Rattle.replica_text.proofs.laws.a_tree_is_fixed_by_its_edges.Goals as goal

pub returns : goal.returns
returns c = tree_is_fixed
