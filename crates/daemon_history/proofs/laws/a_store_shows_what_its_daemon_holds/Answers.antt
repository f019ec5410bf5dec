use Rattle.replica_views.specs.Made as views
use Rattle.daemon_history.proofs.StoreLemmas.{store_holds, made_shown, clash_shown, removed_shown, opened_shown, committed_shown, started_shown}
use Rattle.daemon_history.proofs.laws.a_store_shows_what_its_daemon_holds.Goals as goal

pub returns : goal.returns
returns g c = record {
  holds = store_holds;
  makes = made_shown;
  clashes = λ old path d. clash_shown old (views.made old.history old.actor path d);
  removes = removed_shown;
  removal_clashes = λ old path. clash_shown old (views.removed old.history old.actor path);
  opens = opened_shown;
  commits = committed_shown;
  started = started_shown;
}
