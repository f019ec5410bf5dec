use Rattle.replica_views.proofs.ToldLemmas.{heads_told, depth_told}
use Rattle.replica_views.proofs.laws.a_graph_tells_heads_and_depths.Goals as goal

pub returns : goal.returns
returns c = record { heads = heads_told; depths = depth_told }
