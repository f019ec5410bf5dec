-- What was read of a disk before a store is begun on it.
use Rattle.std.specs.Prelude.{◌≡◌, ◌≢◌, ◌≤◌, [], ℕ, List, IsTrue, slice_index}
use Rattle.outside.specs.DiskMeaning.{DiskMeaning}
use Rattle.outside.specs.Images.{IsImage}
use Rattle.outside.specs.Moments.{LeavesOnly}
use Rattle.journal_format.specs.Image.{IsPlaced, actor_is_first}
use Rattle.change_journal.specs.Held.{JournalView}
use Rattle.change_journal.specs.Opening.{opened, open_steps, FailsSo}
use Rattle.change_journal.specs.Steps.{MadeAll}
use Rattle.change_journal.specs.declared.faults.JournalFault.{JournalFault}
use Rattle.change_journal.specs.declared.faults.JournalFault.TheVariants as journal_faults
use Rattle.replica_views.specs.Views.{beginning}
use Rattle.replica_store.specs.Records.{no_notes, history_from, notes_from, AreTaken}
use Rattle.replica_store.specs.Disk.{IsNotOpened}
use Rattle.replica_disk.specs.declared.loading.Loaded.{Loaded}
use Rattle.replica_disk.specs.declared.loading.Stop.{Stop}
use Rattle.replica_disk.specs.declared.loading.Stop.TheVariants as stops

-- the fault for records, each with its gate, that were not taken
abbrev pub fault_at : List ℕ → Stop → JournalFault
fault_at gates (stops.At place) = journal_faults.BadRecord (slice_index gates place)
fault_at gates stops.Memory = journal_faults.Memory

-- the journal of the disk is open, and its records are taken
pub record IsReadBack {D : Type 0} (old new : DiskMeaning) (journal : JournalView D) (loaded : Loaded) : Type 0 where
  pub placed : old.told → IsPlaced (opened old.seen) journal.records journal.gates journal.end
  pub live : IsTrue journal.live
  pub first : IsTrue (actor_is_first journal.records)
  pub whole : IsTrue loaded.replica.live
  pub history_is : loaded.replica.history ≡ history_from beginning journal.records
  pub notes_are : loaded.notes.entries ≡ notes_from no_notes journal.records
  pub taken : AreTaken beginning journal.records
  pub told : old.told → new.told
  pub made : old.told → MadeAll old new (open_steps old.seen)
  pub moments : old.told → old.seen ≢ [] → LeavesOnly old new (IsImage old.synced old.writes)
  pub plan : new.plan ≡ old.plan
  pub later : old.faults ≤ new.faults

-- it is not, for this fault
pub record IsNotRead (old new : DiskMeaning) (fault : JournalFault) : Type 0 where
  pub cause : IsNotOpened old new fault
  pub so : old.told → FailsSo old new (open_steps old.seen) fault
  pub moments : old.told → old.seen ≢ [] → LeavesOnly old new (IsImage old.synced old.writes)
  pub plan : new.plan ≡ old.plan
  pub later : old.faults ≤ new.faults
