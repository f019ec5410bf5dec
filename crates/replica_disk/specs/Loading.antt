-- Why records are not taken.
use Rattle.std.specs.Prelude.{◌≡◌, ◌≢◌, ◌<◌, ℕ, List, length, take, IsTrue}
use Rattle.change_codec.specs.Change.{Change}
use Rattle.change_codec.specs.Encoding.{change_format}
use Rattle.change_graph.specs.History.{History}
use Rattle.change_graph.specs.Adding.{IsRefused}
use Rattle.change_graph.specs.declared.faults.GraphFault.{GraphFault}
use Rattle.change_graph.specs.declared.faults.GraphFault.TheVariants as faults
use Rattle.journal_format.specs.declared.records.Record.{Record}
use Rattle.journal_format.specs.declared.records.Record.TheVariants as records
use Rattle.replica_views.specs.Views.{beginning}
use Rattle.replica_store.specs.Records.{no_notes, history_from, notes_from, AreTaken, IsFirstRefused}
use Rattle.replica_disk.specs.declared.loading.Loaded.{Loaded}
use Rattle.replica_disk.specs.declared.loading.Refusal.{Refusal}
use Rattle.replica_disk.specs.declared.loading.Refusal.TheVariants as refusals
use Rattle.replica_disk.specs.declared.loading.Stop.{Stop}
use Rattle.replica_disk.specs.declared.loading.Stop.TheVariants as stops

-- the record is of a change that the history refuses
pub record HoldsRefused (history : History) (entry : Record) : Type 0 where
  pub change : Change
  pub entry_is : entry ≡ records.Change (change_format.spelled change)
  pub fits : change_format.Fits change
  pub fault : GraphFault
  pub refused : IsRefused history change fault
  pub some : fault ≢ faults.Memory

abbrev pub StopsAt : History → Record → Refusal → Type 0
StopsAt history entry refusals.Refused = HoldsRefused history entry
StopsAt history entry refusals.Memory = Unit {0}

-- the place is one of the records
abbrev pub IsInside : List Record → Stop → Type 0
IsInside recorded (stops.At place) = place < length recorded
IsInside recorded stops.Memory = Unit {0}

-- it is that of the first change that is refused
abbrev pub IsFirstStop : List Record → Stop → Type 0
IsFirstStop recorded (stops.At place) = IsFirstRefused recorded place
IsFirstStop recorded stops.Memory = Unit {0}

-- the first records, so many, are taken, and these are their history and their notes
pub record IsLoaded (recorded : List Record) (count : ℕ) (loaded : Loaded) : Type 0 where
  pub live : IsTrue loaded.replica.live
  pub history_is : loaded.replica.history ≡ history_from beginning (take count recorded)
  pub notes_are : loaded.notes.entries ≡ notes_from no_notes (take count recorded)
  pub taken : AreTaken beginning (take count recorded)
