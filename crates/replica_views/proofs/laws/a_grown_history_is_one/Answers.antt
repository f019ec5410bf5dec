use Rattle.replica_views.proofs.DepthLemmas.{are_depths}
use Rattle.replica_views.proofs.HeadsLemmas.{is_heads}
use Rattle.replica_views.proofs.HistoryLemmas.{grown_history}
use Rattle.replica_views.proofs.laws.a_grown_history_is_one.Goals as goal

pub returns : goal.returns
returns c = record { history = grown_history; depths = are_depths; heads = is_heads }
