use Rattle.change_graph.specs.History.{name_of}
use Rattle.change_graph.proofs.InsertLemmas.{length_inserted}
use Rattle.replica_views.proofs.StepLemmas.{tree_step}
use Rattle.replica_views.proofs.laws.a_change_adds_what_it_does.Goals as goal

pub returns : goal.returns
returns c = record { held = λ history change grown may. length_inserted (name_of change) change history may.next.new; trees = tree_step }
