-- What an opening of a store comes to, from that of its journal.
use Rattle.std.proofs.Common.{◌≡◌, ◌≢◌, ◌≤◌, ℕ, List, [], ◌∷◌, ◌++◌, true, Result, Ok, Err, IsTrue, refl, sym, ap, ◌∙◌, subst, inl, inr}
use Rattle.std.specs.Prelude.{OnOk}
use Rattle.std.specs.List.{AllByRecursion}
use Rattle.std.proofs.lemmas.List.{append-nil}
use Rattle.tt_base.specs.declared.ids.Actor.{Actor}
use Rattle.outside.specs.DiskMeaning.{DiskMeaning}
use Rattle.outside.specs.Faults.{Rose}
use Rattle.outside.specs.Images.{IsImage}
use Rattle.outside.specs.Moments.{LeavesNow, LeavesOnly}
use Rattle.outside.proofs.Moments.{then_run}
use Rattle.journal_format.specs.Encoding.{record_field, HoldsEncoding}
use Rattle.journal_format.specs.Image.{group_field, actor_is_first, all_records, StandsFor, IsPlaced}
use Rattle.journal_format.specs.declared.records.Record.{Record}
use Rattle.journal_format.specs.declared.records.Record.TheVariants as records
use Rattle.change_journal.specs.Held.{JournalView}
use Rattle.change_journal.specs.Faults.{journal_fault_for}
use Rattle.change_journal.specs.Journal.{IsBeforeOrAfter, AppendsSo}
use Rattle.change_journal.specs.Opening.{opened, open_steps, FailsToOpen, FailsSo}
use Rattle.change_journal.specs.Steps.{Step, MadeAll}
use Rattle.change_journal.specs.declared.faults.AppendFault.{AppendFault}
use Rattle.change_journal.specs.declared.faults.AppendFault.TheVariants as append_faults
use Rattle.change_journal.specs.declared.faults.JournalFault.{JournalFault}
use Rattle.change_journal.specs.declared.faults.JournalFault.TheVariants as journal_faults
use Rattle.change_journal.proofs.Runs.{made_on, until_on, front_on}
use Rattle.change_journal.proofs.Opens.{rises, all_is_front}
use Rattle.change_journal.proofs.Contents.{placed_stands}
use Rattle.replica_store.specs.Records.{no_notes, history_from, notes_from, AreTaken, actor_from, begun}
use Rattle.replica_views.specs.Views.{beginning}
use Rattle.replica_store.specs.Store.{StoreView, IsStore}
use Rattle.replica_store.specs.Calls.{IsWritten, IsOpened}
use Rattle.replica_store.specs.Disk.{commit_steps, first_records, OpensOn, IsNotOpened, FailsToOpenSo, LeftByOpening}
use Rattle.replica_store.proofs.RecordLemmas.{written_records, written_live, store_opened}
use Rattle.replica_disk.specs.Loading.{IsFirstStop}
use Rattle.replica_disk.specs.Opening.{fault_at, IsReadBack, IsNotRead}
use Rattle.replica_disk.specs.declared.loading.Stop.{Stop}
use Rattle.replica_disk.specs.declared.loading.Stop.TheVariants as stops
use Rattle.replica_disk.specs.declared.loading.Loaded.{Loaded}

-- ---- records of a content hold encodings

record_holds : (r : Record) → record_field.Fits r → HoldsEncoding r
unfolding record_field
record_holds (records.Actor actor) fits = tt
record_holds (records.Change encoding) fits = fits.0.1.1.0
record_holds (records.Note path note) fits = tt

each_holds : (rs : List Record) → AllByRecursion record_field.Fits rs → AllByRecursion HoldsEncoding rs
each_holds [] fit = tt
each_holds (r ∷ rs) fit = (record_holds r fit.0, each_holds rs fit.1)

both_hold : (xs ys : List Record) → AllByRecursion HoldsEncoding xs → AllByRecursion HoldsEncoding ys → AllByRecursion HoldsEncoding (xs ++ ys)
both_hold [] ys one other = other
both_hold (x ∷ xs) ys one other = (one.0, both_hold xs ys one.1 other)

group_holds : (group : List Record) → group_field.Fits group → AllByRecursion HoldsEncoding group
unfolding group_field
group_holds group fits = each_holds group fits.1

groups_hold : (groups : List (List Record)) → AllByRecursion group_field.Fits groups → AllByRecursion HoldsEncoding (all_records groups)
groups_hold [] fit = tt
groups_hold (g ∷ gs) fit = both_hold g (all_records gs) (group_holds g fit.0) (groups_hold gs fit.1)

-- the records that bytes are placed as hold encodings
pub placed_holds : (content : List ℕ) (recorded : List Record) (gates : List ℕ) (end : ℕ) → IsPlaced content recorded gates end → AllByRecursion HoldsEncoding recorded
placed_holds content recorded gates end placed =
    subst (AllByRecursion HoldsEncoding) (sym placed.records_are) (groups_hold placed.groups placed.image.good.each)

-- ---- the daemon's record

pub begun_is : (given : Actor) (recorded : List Record) → recorded ++ first_records given recorded ≡ begun given recorded
begun_is given [] = refl
begun_is given (r ∷ rs) = append-nil (r ∷ rs)

-- with the daemon's record, where it was wanted, the journal is begun
pub begins : {D : Type 0} (old new : JournalView D) (given : Actor) → IsWritten old new (first_records given old.records) → new.records ≡ begun given old.records
begins old new given written = written_records old new (first_records given old.records) written ∙ begun_is given old.records

-- what is left of a journal stands for the records that it has now, those that were written among them
pub begin_leaves : {D E : Type 0} (disk : DiskMeaning) (old new : JournalView D) (added : List Record) (answer : Result (Unit {0}) E)
    → OnOk answer (IsWritten old new added) → OnOk answer (LeavesNow disk (λ image. StandsFor image (old.records ++ added)))
    → OnOk answer (LeavesNow disk (λ image. StandsFor image new.records))
begin_leaves disk old new added (Ok done) written leaves =
    subst (λ (rs : List Record). LeavesNow disk (λ image. StandsFor image rs)) (sym (written_records old new added written)) leaves
begin_leaves disk old new added (Err fault) written leaves = tt

-- ---- an opening that fails at the daemon's record

pub broken_on : (old mid new : DiskMeaning) (steps more : List Step) (fault : AppendFault) → MadeAll old mid steps → AppendsSo more mid new (Err fault)
    → FailsSo old new (steps ++ more) (journal_fault_for fault)
broken_on old mid new steps more append_faults.Fault made until = inl (until_on old mid new steps made more until)
broken_on old mid new steps more append_faults.Memory made front = front_on old mid new steps made more front

pub begin_fails : (old mid new : DiskMeaning) (given : Actor) (recorded : List Record) (gates : List ℕ) (end : ℕ) (fault : AppendFault)
    → IsPlaced (opened old.seen) recorded gates end → MadeAll old mid (open_steps old.seen)
    → AppendsSo (commit_steps end (first_records given recorded)) mid new (Err fault) → FailsToOpenSo old new given (journal_fault_for fault)
begin_fails old mid new given [] gates end fault placed made so = inr (record {
  gates = gates;
  end = end;
  placed = placed;
  so = broken_on old mid new (open_steps old.seen) (commit_steps end (first_records given [])) fault made so;
})
begin_fails old mid new given (r ∷ rs) gates end fault placed made so =
    inl (subst (λ (l : List Step). FailsSo old new l (journal_fault_for fault)) (append-nil (open_steps old.seen))
    (broken_on old mid new (open_steps old.seen) [] fault made so))

pub begin_refuses : (old mid new : DiskMeaning) (fault : AppendFault) → old.faults ≤ mid.faults → (fault ≡ append_faults.Fault → Rose mid.faults new.faults)
    → IsNotOpened old new (journal_fault_for fault)
begin_refuses old mid new append_faults.Fault later rose = rises old.faults mid.faults new.faults later (rose refl)
begin_refuses old mid new append_faults.Memory later rose = tt

-- ---- what a crash leaves meanwhile

weaker : (old new : DiskMeaning) (P R : List ℕ → Type 0) → LeavesOnly old new P → ((image : List ℕ) → P image → R image) → LeavesOnly old new R
weaker old new P R leaves to = record {
  later = leaves.later;
  each = λ image left. to image (leaves.each image left);
  before = λ t image early left. elim (leaves.before t image early left) [ inl earlier ↦ inl earlier | inr has ↦ inr (to image has) ];
}

-- the opening of the journal leaves no more
pub left_by_journal : (old new : DiskMeaning) (given : Actor) → LeavesOnly old new (IsImage old.synced old.writes) → LeavesOnly old new (LeftByOpening old given)
left_by_journal old new given leaves = weaker old new (IsImage old.synced old.writes) (LeftByOpening old given) leaves (λ image is. inl is)

-- and then the append of the daemon's record
pub left_by_opening : (old mid new : DiskMeaning) (given : Actor) (recorded : List Record) (gates : List ℕ) (end : ℕ) → IsPlaced (opened old.seen) recorded gates end
    → LeavesOnly old mid (IsImage old.synced old.writes) → LeavesOnly mid new (IsBeforeOrAfter recorded (first_records given recorded))
    → LeavesOnly old new (LeftByOpening old given)
left_by_opening old mid new given recorded gates end placed one two =
    then_run old mid new (IsImage old.synced old.writes) (IsBeforeOrAfter recorded (first_records given recorded)) (LeftByOpening old given) one two (λ image is. inl is)
    (λ image is. inr (record { recorded = recorded; stands = placed_stands (opened old.seen) recorded gates end placed; image_stands = is }))

-- ---- a journal that is opened, and its records

pub journal_refuses : (old new : DiskMeaning) (fault : JournalFault) → FailsToOpen old new fault → IsNotOpened old new fault
journal_refuses old new journal_faults.NotAJournal fails = fails
journal_refuses old new (journal_faults.BadRecord place) fails = λ told. inl (fails told)
journal_refuses old new journal_faults.Fault fails = fails
journal_refuses old new journal_faults.Memory fails = tt

pub stop_refuses : {D : Type 0} (old new : DiskMeaning) (journal : JournalView D) (stop : Stop)
    → (old.told → IsPlaced (opened old.seen) journal.records journal.gates journal.end)
    → (AllByRecursion HoldsEncoding journal.records → IsFirstStop journal.records stop) → IsNotOpened old new (fault_at journal.gates stop)
stop_refuses old new journal (stops.At place) placed first = λ told. inr (record {
  recorded = journal.records;
  gates = journal.gates;
  end = journal.end;
  placed = placed told;
  bad = record { place = place; first = first (placed_holds (opened old.seen) journal.records journal.gates journal.end (placed told)); gate = refl };
})
stop_refuses old new journal stops.Memory placed first = tt

pub stop_so : (old new : DiskMeaning) (steps : List Step) (gates : List ℕ) (stop : Stop) → MadeAll old new steps → FailsSo old new steps (fault_at gates stop)
stop_so old new steps gates (stops.At place) made = made
stop_so old new steps gates stops.Memory made = all_is_front old new steps made

module _ {D : Type 0} (old new : DiskMeaning) (journal : JournalView D) (given : List Record) (same : given ≡ journal.records)
    (placed : old.told → IsPlaced (opened old.seen) journal.records journal.gates journal.end) (made : old.told → MadeAll old new (open_steps old.seen))
    (moments : old.told → old.seen ≢ [] → LeavesOnly old new (IsImage old.synced old.writes)) (plan : new.plan ≡ old.plan) (later : old.faults ≤ new.faults) where
  pub reads_back : (loaded : Loaded) → IsTrue journal.live → IsTrue (actor_is_first journal.records) → (old.told → new.told) → IsTrue loaded.replica.live
      → loaded.replica.history ≡ history_from beginning given → loaded.notes.entries ≡ notes_from no_notes given → AreTaken beginning given
      → IsReadBack old new journal loaded
  reads_back loaded live first told whole history notes taken = record {
    placed = placed;
    live = live;
    first = first;
    whole = whole;
    history_is = history ∙ ap (history_from beginning) same;
    notes_are = notes ∙ ap (notes_from no_notes) same;
    taken = subst (AreTaken beginning) same taken;
    told = told;
    made = made;
    moments = moments;
    plan = plan;
    later = later;
  }

  pub load_refuses : (stop : Stop) (fault : JournalFault) → fault ≡ fault_at journal.gates stop → (AllByRecursion HoldsEncoding given → IsFirstStop given stop)
      → IsNotRead old new fault
  load_refuses stop named is first =
      subst (IsNotRead old new) (sym is)
      (record {
        cause = stop_refuses old new journal stop placed (subst (λ (rs : List Record). AllByRecursion HoldsEncoding rs → IsFirstStop rs stop) same first);
        so = λ told. stop_so old new (open_steps old.seen) journal.gates stop (made told);
        moments = moments;
        plan = plan;
        later = later;
      })

-- ---- a store that is opened

module _ {D : Type 0} (old mid new : DiskMeaning) (given owner : Actor) (before after : JournalView D) (loaded : Loaded) (staged : List Record)
    (back : IsReadBack old mid before loaded) (written : IsWritten before after (first_records given before.records))
    (owned : owner ≡ actor_from given before.records) (none : staged ≡ []) where
  abbrev store : StoreView D
  store = record { journal = after; actor = owner; staged = staged; history = loaded.replica.history; notes = loaded.notes.entries; live = true }

  is_opened : IsOpened before.records given store
  is_opened = record {
    records_are = begins before after given written;
    actor_is = owned;
    none_staged = none;
    history_is = back.history_is;
    notes_are = back.notes_are;
    live = refl;
  }

  pub opens_on : (mid.told → MadeAll mid new (commit_steps before.end (first_records given before.records))) → OpensOn old new given store
  opens_on steps = record {
    recorded = before.records;
    gates = before.gates;
    end = before.end;
    placed = back.placed;
    taken = back.taken;
    is_opened = is_opened;
    made = λ told. made_on old mid new (open_steps old.seen) (back.made told) (commit_steps before.end (first_records given before.records)) (steps (back.told told));
  }

  pub opens_store : IsStore store
  opens_store = store_opened before.records given store back.first back.taken (written_live before after (first_records given before.records) written back.live) is_opened
