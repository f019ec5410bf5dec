use Rattle.replica_text.proofs.EdgeLemmas.{behind_its_parent}
use Rattle.replica_text.proofs.laws.an_element_stands_behind_its_parent.Goals as goal

pub returns : goal.returns
returns c = behind_its_parent
