use Rattle.replica_views.proofs.ViewLemmas.{well_tree}
use Rattle.replica_views.proofs.laws.trees_of_a_history_are_trees.Goals as goal

pub returns : goal.returns
returns c = record {
  trees = λ history grown object. (well_tree history grown object).is_tree;
  distinct = λ history grown object. (well_tree history grown object).distinct;
}
