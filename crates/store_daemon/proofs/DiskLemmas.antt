-- What is on the disk of a daemon, before and after an event.
use Rattle.std.proofs.Common.{◌≡◌, List, [], ◌++◌, inl, inr, append-nil, sym, ap, ◌∙◌, subst}
use Rattle.outside.specs.DiskMeaning.{DiskMeaning, IsSound}
use Rattle.outside.specs.Moments.{LeavesNow, LeavesOnly}
use Rattle.outside.proofs.Moments.{started, then_run}
use Rattle.journal_format.specs.Image.{StandsFor}
use Rattle.journal_format.specs.declared.records.Record.{Record}
use Rattle.change_journal.specs.Held.{JournalView}
use Rattle.change_journal.specs.Journal.{IsBeforeOrAfter}
use Rattle.replica_store.specs.Store.{StoreView, all_records}
use Rattle.daemon_core.specs.declared.events.Event.{Event}
use Rattle.daemon_events.specs.Outputs.{serve}
use Rattle.store_daemon.specs.Daemons.{DaemonView, state_of, IsBeforeOrAfterEvent}

-- where nothing is staged, what is recorded is on the disk
pub settled_records : {D : Type 0} (store : StoreView D) → store.staged ≡ [] → all_records store ≡ store.journal.records
settled_records store settled = ap (λ (staged : List Record). store.journal.records ++ staged) settled ∙ append-nil store.journal.records

module _ {D : Type 0} (meaning : D → DiskMeaning) (sound : (x : D) → IsSound (meaning x)) (d : DaemonView D) (event : Event)
    (settled : d.store.staged ≡ [])
    (now : LeavesNow (meaning d.store.journal.disk) (λ image. StandsFor image d.store.journal.records)) where
  -- a call that has not touched the disk
  pub rests_so : (journal : JournalView D) → journal ≡ d.store.journal
      → LeavesOnly (meaning d.store.journal.disk) (meaning journal.disk) (IsBeforeOrAfterEvent d event)
  rests_so journal rests =
      subst (λ (j : JournalView D). LeavesOnly (meaning d.store.journal.disk) (meaning j.disk) (IsBeforeOrAfterEvent d event)) (sym rests)
      (started (meaning d.store.journal.disk) (IsBeforeOrAfterEvent d event) (sound d.store.journal.disk)
      (λ image left. inl (subst (StandsFor image) (sym (settled_records d.store settled)) (now image left))))

  -- one that has committed what the event records, whether all calls succeeded or one failed
  pub commits_so : (staged : StoreView D) (journal : JournalView D) → staged.journal ≡ d.store.journal
      → (serve (state_of d) event).state.holding.recorded ≡ all_records staged
      → LeavesOnly (meaning staged.journal.disk) (meaning journal.disk) (IsBeforeOrAfter staged.journal.records staged.staged)
      → LeavesOnly (meaning d.store.journal.disk) (meaning journal.disk) (IsBeforeOrAfterEvent d event)
  commits_so staged journal rests recorded run =
      then_run (meaning d.store.journal.disk) (meaning staged.journal.disk) (meaning journal.disk) (IsBeforeOrAfterEvent d event)
      (IsBeforeOrAfter staged.journal.records staged.staged) (IsBeforeOrAfterEvent d event) (rests_so staged.journal rests) run
      (λ image has. has)
      (λ image has. elim has [
        | inl before ↦ inl (subst (StandsFor image) (ap (λ (j : JournalView D). j.records) rests ∙ sym (settled_records d.store settled)) before)
        | inr behind ↦ inr (subst (StandsFor image) (sym recorded) behind)
      ])
