-- What has been read of a journal when a gate is reached.
use Rattle.std.specs.Prelude.{◌≡◌, ℕ, List, ◌++◌, length}
use Rattle.journal_format.specs.Image.{mark, open_groups, all_records, gates_from, AreGroups, IsFirstBad}
use Rattle.journal_format.specs.declared.records.Record.{Record}
use Rattle.journal_format.specs.declared.groups.BadGroups.{BadGroups}
use Rattle.journal_format.specs.declared.groups.BadGroups.TheVariants.{BadRecord, Memory}

-- good groups stand before the rest
pub record IsReadTo (bytes : List ℕ) (recorded : List Record) (gates : List ℕ) (end : ℕ) (rest : List ℕ) : Type 0 where
  pub groups : List (List Record)
  pub spelling : bytes ≡ mark ++ (open_groups groups ++ rest)
  pub records_are : recorded ≡ all_records groups
  pub gates_are : gates ≡ gates_from (length mark) groups
  pub end_is : end ≡ length (mark ++ open_groups groups)
  pub good : AreGroups groups

-- want of memory says nothing
abbrev pub IsFault : List ℕ → BadGroups → Type 0
IsFault bytes (BadRecord place) = IsFirstBad bytes place
IsFault bytes Memory = Unit {0}
