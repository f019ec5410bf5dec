-- How a journal is opened: which content is a journal, and the counted calls of an opening.
use Rattle.std.specs.Prelude.{◌≢◌, ◌⊎◌, ℕ, List, [], ◌∷◌, ◌++◌}
use Rattle.outside.specs.DiskMeaning.{DiskMeaning}
use Rattle.outside.specs.Faults.{Rose}
use Rattle.journal_format.specs.Image.{mark, IsFirstBad}
use Rattle.change_journal.specs.Steps.{Step, ToWrite, ToSync, MadeAll, MadeUntil, MadeFront}
use Rattle.change_journal.specs.declared.faults.JournalFault.{JournalFault}
use Rattle.change_journal.specs.declared.faults.JournalFault.TheVariants as journal_faults

-- the bytes of a journal without records
abbrev pub empty_journal : List ℕ
empty_journal = mark ++ 0 ∷ []

-- the content that is read when a disk with this content is opened: an empty one gets an empty journal
abbrev pub opened : List ℕ → List ℕ
opened [] = empty_journal
opened (byte ∷ bytes) = byte ∷ bytes

-- the counted calls of an opening: an empty journal on an empty disk, and a sync
abbrev pub open_steps : List ℕ → List Step
open_steps [] = ToWrite (record { place = 0; bytes = empty_journal }) ∷ ToSync ∷ []
open_steps (byte ∷ bytes) = ToSync ∷ []

-- the bytes do not begin with the mark and a byte behind it
abbrev pub IsNoJournal : List ℕ → Type 0
IsNoJournal bytes = (next : ℕ) (rest : List ℕ) → bytes ≢ mark ++ next ∷ rest

-- the bytes are refused for this cause; want of memory says nothing, and the disk has no part in it
abbrev pub IsRefused : List ℕ → JournalFault → Type 0
IsRefused bytes journal_faults.NotAJournal = IsNoJournal bytes
IsRefused bytes (journal_faults.BadRecord place) = IsFirstBad bytes place
IsRefused bytes journal_faults.Fault = ⊥
IsRefused bytes journal_faults.Memory = Unit {0}

-- why an opening failed: its content is refused, or the disk's count of faults rose
abbrev pub FailsToOpen : DiskMeaning → DiskMeaning → JournalFault → Type 0
FailsToOpen old new journal_faults.NotAJournal = old.told → IsNoJournal (opened old.seen)
FailsToOpen old new (journal_faults.BadRecord place) = old.told → IsFirstBad (opened old.seen) place
FailsToOpen old new journal_faults.Fault = Rose old.faults new.faults
FailsToOpen old new journal_faults.Memory = Unit {0}

-- the steps were made up to and with the first that failed, or some from the front on and a call that is not counted failed
abbrev pub IsBrokenOff : DiskMeaning → DiskMeaning → List Step → Type 0
IsBrokenOff old new steps = MadeUntil old new steps ⊎ MadeFront old new steps

-- which of the steps an opening made before it was refused
abbrev pub FailsSo : DiskMeaning → DiskMeaning → List Step → JournalFault → Type 0
FailsSo old new steps journal_faults.NotAJournal = MadeAll old new steps
FailsSo old new steps (journal_faults.BadRecord place) = MadeAll old new steps
FailsSo old new steps journal_faults.Fault = IsBrokenOff old new steps
FailsSo old new steps journal_faults.Memory = MadeFront old new steps
