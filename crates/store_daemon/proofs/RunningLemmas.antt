-- A daemon that runs goes on to, when a connection begins or ends, and when what was staged is on the disk.
use Rattle.std.proofs.Common.{◌≡◌, ℕ, not, List, [], filter, IsTrue, sym, ap, subst}
use Rattle.std.specs.BTreeMap.{insert_entry}
use Rattle.std.specs.Ordering.{nat_cmp}
use Rattle.file_uri.specs.Base.{BaseView}
use Rattle.replica_store.specs.Calls.{IsCommitted}
use Rattle.replica_store.specs.Store.{StoreView}
use Rattle.daemon_core.specs.History.{History}
use Rattle.daemon_core.specs.Laws.{IsServing}
use Rattle.daemon_core.specs.State.{Links, is_number}
use Rattle.daemon_core.specs.declared.events.Event.TheVariants.{EditorBegan, Ended}
use Rattle.daemon_core.specs.declared.events.Output.{Output}
use Rattle.daemon_core.proofs.ServeLemmas.{goes_on}
use Rattle.daemon_history.specs.Holding.{Holding}
use Rattle.daemon_history.specs.Shown.{shown}
use Rattle.daemon_texts.specs.Texts.{AreAtHand}
use Rattle.store_daemon.specs.Following.{texts_on, IsRunning, IsServed}

pub began_running : {D : Type 0} (base : BaseView) (store : StoreView D) (files : History) (before after : List (ℕ × Links)) (n : ℕ)
    → IsRunning base store files before → after ≡ insert_entry nat_cmp before n [] → IsRunning base store files after
began_running base store files before after n runs put = record {
  live = runs.live;
  settled = runs.settled;
  serves =
      subst (λ (cs : List (ℕ × Links)). IsServing (texts_on base files cs)) (sym put)
      (goes_on (texts_on base files before) (EditorBegan n) runs.serves);
  at_hand = runs.at_hand;
}

pub ended_running : {D : Type 0} (base : BaseView) (store : StoreView D) (files : History) (before after : List (ℕ × Links)) (n : ℕ)
    → IsRunning base store files before → after ≡ filter (λ c. not (is_number n c.0)) before → IsRunning base store files after
ended_running base store files before after n runs gone = record {
  live = runs.live;
  settled = runs.settled;
  serves =
      subst (λ (cs : List (ℕ × Links)). IsServing (texts_on base files cs)) (sym gone)
      (goes_on (texts_on base files before) (Ended n) runs.serves);
  at_hand = runs.at_hand;
}

-- a frame was served, and what it staged is on the disk
pub served_running : {D : Type 0} (base : BaseView) (old staged new : StoreView D) (n : ℕ) (body : List ℕ) (before after : List (ℕ × Links)) (files : History)
    (sent : List Output) → IsServed base old staged n body before after files sent → IsCommitted staged new → shown new ≡ shown staged
    → IsRunning base new files after
served_running base old staged new n body before after files sent served done same = record {
  live = subst (λ (s : StoreView _). IsTrue s.live) (sym done.same) served.live;
  settled = ap (λ (s : StoreView _). s.staged) done.same;
  serves = served.serves;
  at_hand = subst (λ (h : Holding). AreAtHand h files) (sym same) served.at_hand;
}
