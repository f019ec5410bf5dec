-- What an open journal holds of its disk.
use Rattle.std.specs.Prelude.{◌≡◌, ◌<◌, ◌+◌, ◌^◌, ℕ, Bool, List, length, IsTrue}
use Rattle.outside.specs.DiskMeaning.{DiskMeaning}
use Rattle.journal_format.specs.declared.records.Record.{Record}
use Rattle.journal_format.specs.Image.{actor_is_first}
use Rattle.change_journal.specs.Journal.{Rests}

-- what contracts see of a journal: its disk, its records in order, for each the offset of its group's gate, the offset of the
-- closed gate, and whether no append has failed
pub record JournalView (D : Type 0) : Type 0 where
  pub disk : D
  pub records : List Record
  pub gates : List ℕ
  pub end : ℕ
  pub live : Bool

-- what holds of records that a disk keeps
pub record IsHeld (disk : DiskMeaning) (recorded : List Record) (gates : List ℕ) (end : ℕ) : Type 0 where
  pub rests : Rests disk recorded gates end
  pub gate_of_each : length gates ≡ length recorded
  pub actor : IsTrue (actor_is_first recorded)
  pub room : end + 1 < 2 ^ 64
