-- What a journal keeps on its disk, and what its calls do there (write-ahead logging: Mohan and others, ARIES, 1992).
use Rattle.std.specs.Prelude.{◌≡◌, ◌+◌, ◌⊎◌, ℕ, List, [], ◌∷◌, ◌++◌, IsTrue, Result, Ok, Err}
use Rattle.outside.specs.DiskMeaning.{DiskMeaning}
use Rattle.journal_format.specs.declared.records.Record.{Record}
use Rattle.journal_format.specs.Image.{group_field, actor_is_first, StandsFor, IsPlaced}
use Rattle.change_journal.specs.Steps.{Step, ToWrite, ToSync, MadeAll, MadeUntil, MadeFront}
use Rattle.change_journal.specs.declared.faults.AppendFault.{AppendFault}
use Rattle.change_journal.specs.declared.faults.AppendFault.TheVariants as append_faults

-- the disk's content stands for these records, with their gates and the closed gate at these offsets, and is what a crash leaves
pub record Rests (disk : DiskMeaning) (recorded : List Record) (gates : List ℕ) (end : ℕ) : Type 0 where
  pub placed : disk.told → IsPlaced disk.seen recorded gates end
  pub synced : disk.told → disk.synced ≡ disk.seen
  pub writes : disk.told → disk.writes ≡ []

-- the image stands for the records from before, and for none or all of those that are added
abbrev pub IsBeforeOrAfter : List Record → List Record → List ℕ → Type 0
IsBeforeOrAfter recorded added image = StandsFor image recorded ⊎ StandsFor image (recorded ++ added)

-- what stands behind the gate of a group that is appended: the group, and a closed gate
abbrev pub appended : List Record → List ℕ
appended added = group_field.spelled added ++ 0 ∷ []

-- behind the closed gate of a disk that rests these bytes add a group of these records
pub record AddsGroup (disk : DiskMeaning) (recorded : List Record) (gates : List ℕ) (gate : ℕ) (added : List Record) (bytes : List ℕ) : Type 0 where
  pub rests : Rests disk recorded gates gate
  pub fits : group_field.Fits added
  pub actor : IsTrue (actor_is_first (recorded ++ added))
  pub bytes_are : bytes ≡ appended added

-- the counted calls of an append at a closed gate: the group behind it, durable before the gate opens
abbrev pub append_steps : ℕ → List ℕ → List Step
append_steps gate bytes =
    ToWrite (record { place = gate + 1; bytes = bytes }) ∷ ToSync ∷ ToWrite (record { place = gate; bytes = 1 ∷ [] }) ∷ ToSync ∷ []

-- which of the steps an append made; a write that wanted memory was not made
abbrev pub AppendsSo : List Step → DiskMeaning → DiskMeaning → Result (Unit {0}) AppendFault → Type 0
AppendsSo steps old new (Ok done) = MadeAll old new steps
AppendsSo steps old new (Err append_faults.Fault) = MadeUntil old new steps
AppendsSo steps old new (Err append_faults.Memory) = MadeFront old new steps
