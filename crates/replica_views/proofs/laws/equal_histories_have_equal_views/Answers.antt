use Rattle.std.proofs.Common.{ap}
use Rattle.change_graph.specs.History.{History}
use Rattle.replica_views.specs.Views.{view_at}
use Rattle.replica_views.proofs.SameLemmas.{same_changes}
use Rattle.replica_views.proofs.laws.equal_histories_have_equal_views.Goals as goal

pub returns : goal.returns
returns c = record {
  histories = same_changes;
  views = λ one other a b same path. ap (λ (h : History). view_at h path) (same_changes one other a b same);
}
