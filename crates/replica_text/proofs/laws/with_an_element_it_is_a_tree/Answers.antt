use Rattle.replica_text.proofs.SkipLemmas.{element_tree}
use Rattle.replica_text.proofs.RunLemmas.{parent_known}
use Rattle.replica_text.specs.Tree.{walk}
use Rattle.replica_text.proofs.laws.with_an_element_it_is_a_tree.Goals as goal

pub returns : goal.returns
returns c = λ parent new tree t n h. element_tree parent new tree t n (parent_known parent new.id (walk tree) h)
