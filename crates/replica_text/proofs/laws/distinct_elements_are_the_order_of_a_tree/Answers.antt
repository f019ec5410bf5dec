use Rattle.replica_text.proofs.MadeEffects.{tree_of}
use Rattle.replica_text.proofs.laws.distinct_elements_are_the_order_of_a_tree.Goals as goal

pub returns : goal.returns
returns c = tree_of
