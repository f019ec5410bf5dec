-- What a store does on its disk: the counted calls of a commit and of an opening, what is opened, and why an opening fails.
use Rattle.std.specs.Prelude.{◌≡◌, ◌⊎◌, ℕ, List, [], ◌∷◌, ◌++◌}
use Rattle.tt_base.specs.declared.ids.Actor.{Actor}
use Rattle.outside.specs.DiskMeaning.{DiskMeaning}
use Rattle.outside.specs.Faults.{Rose}
use Rattle.outside.specs.Images.{IsImage}
use Rattle.journal_format.specs.Image.{StandsFor, IsPlaced, IsFirstBad}
use Rattle.journal_format.specs.declared.records.Record.{Record}
use Rattle.journal_format.specs.declared.records.Record.TheVariants as records
use Rattle.change_journal.specs.Journal.{appended, append_steps, IsBeforeOrAfter}
use Rattle.change_journal.specs.Opening.{opened, open_steps, IsNoJournal, FailsSo}
use Rattle.change_journal.specs.Steps.{Step, MadeAll}
use Rattle.change_journal.specs.declared.faults.JournalFault.{JournalFault}
use Rattle.change_journal.specs.declared.faults.JournalFault.TheVariants as journal_faults
use Rattle.replica_views.specs.Views.{beginning}
use Rattle.replica_store.specs.Records.{Notes, no_notes, history_from, notes_from, AreTaken, IsBadAt}
use Rattle.replica_store.specs.Store.{StoreView}
use Rattle.replica_store.specs.Calls.{IsOpened}

-- the counted calls of a commit at a closed gate: none where nothing is staged, else those of one append
abbrev pub commit_steps : ℕ → List Record → List Step
commit_steps gate [] = []
commit_steps gate (first ∷ others) = append_steps gate (appended (first ∷ others))

-- the records that an opening adds: the daemon's own where there are none
abbrev pub first_records : Actor → List Record → List Record
first_records given [] = records.Actor given ∷ []
first_records given (first ∷ others) = []

-- A store was opened for this daemon, over records that are taken one after another: those of the disk's content. The counted calls are
-- those of its journal, and behind them one append where there were no records.
pub record OpensOn {D : Type 0} (old new : DiskMeaning) (given : Actor) (store : StoreView D) : Type 0 where
  pub recorded : List Record
  pub gates : List ℕ
  pub end : ℕ
  pub placed : old.told → IsPlaced (opened old.seen) recorded gates end
  pub taken : AreTaken beginning recorded
  pub is_opened : IsOpened recorded given store
  pub made : old.told → MadeAll old new (open_steps old.seen ++ commit_steps end (first_records given recorded))

-- the content is a journal's, and this is the gate of the first group with a change that is refused
pub record IsRefusedAt (content : List ℕ) (offset : ℕ) : Type 0 where
  pub recorded : List Record
  pub gates : List ℕ
  pub end : ℕ
  pub placed : IsPlaced content recorded gates end
  pub bad : IsBadAt recorded gates offset

-- why no store was opened: as its journal was not, or for a change that is refused
abbrev pub IsNotOpened : DiskMeaning → DiskMeaning → JournalFault → Type 0
IsNotOpened old new journal_faults.NotAJournal = old.told → IsNoJournal (opened old.seen)
IsNotOpened old new (journal_faults.BadRecord offset) = old.told → IsFirstBad (opened old.seen) offset ⊎ IsRefusedAt (opened old.seen) offset
IsNotOpened old new journal_faults.Fault = Rose old.faults new.faults
IsNotOpened old new journal_faults.Memory = Unit {0}

-- the journal was opened without records, and the append of the daemon's was broken off
pub record FailsToBegin (old new : DiskMeaning) (given : Actor) (fault : JournalFault) : Type 0 where
  pub gates : List ℕ
  pub end : ℕ
  pub placed : IsPlaced (opened old.seen) [] gates end
  pub so : FailsSo old new (open_steps old.seen ++ commit_steps end (first_records given [])) fault

-- which counted calls an opening made before it was refused
abbrev pub FailsToOpenSo : DiskMeaning → DiskMeaning → Actor → JournalFault → Type 0
FailsToOpenSo old new given fault = FailsSo old new (open_steps old.seen) fault ⊎ FailsToBegin old new given fault

-- the image stands for the records of a content, or for them with the daemon's own where that is added
pub record IsBegun (content : List ℕ) (given : Actor) (image : List ℕ) : Type 0 where
  pub recorded : List Record
  pub stands : StandsFor content recorded
  pub image_stands : IsBeforeOrAfter recorded (first_records given recorded) image

-- what a crash leaves while a store is opened on this disk: what it might have left before, or what an opening has begun
abbrev pub LeftByOpening : DiskMeaning → Actor → List ℕ → Type 0
LeftByOpening old given image = IsImage old.synced old.writes image ⊎ IsBegun (opened old.seen) given image

-- the history and the notes of a store are those of these records
pub record Shows {D : Type 0} (store : StoreView D) (recorded : List Record) : Type 0 where
  pub history_is : store.history ≡ history_from beginning recorded
  pub notes_are : store.notes ≡ notes_from no_notes recorded
