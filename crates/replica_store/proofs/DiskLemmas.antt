-- What is opened on what a crash leaves of a commit.
use Rattle.std.proofs.Common.{◌≡◌, ◌⊎◌, inl, inr, List, ◌∙◌, ap}
use Rattle.tt_base.specs.declared.ids.Actor.{Actor}
use Rattle.outside.specs.DiskMeaning.{DiskMeaning}
use Rattle.journal_format.specs.Image.{StandsFor}
use Rattle.journal_format.specs.declared.records.Record.{Record}
use Rattle.change_journal.specs.Journal.{IsBeforeOrAfter}
use Rattle.change_journal.proofs.Opened.{opens_as}
use Rattle.replica_views.specs.Views.{beginning}
use Rattle.replica_store.specs.Records.{no_notes, history_from, notes_from}
use Rattle.replica_store.specs.Store.{StoreView, all_records, IsStore}
use Rattle.replica_store.specs.Disk.{OpensOn, Shows}

-- a store that is opened on a content shows the records for which that stands
pub opens_showing : {D : Type 0} (again : StoreView D) (old new : DiskMeaning) (given : Actor) (recorded : List Record) → old.told
    → StandsFor old.seen recorded → OpensOn old new given again → Shows again recorded
opens_showing again old new given recorded told stands opens =
    let same : opens.recorded ≡ recorded = opens_as old.seen recorded opens.recorded opens.gates opens.end stands (opens.placed told) in
    record {
      history_is = opens.is_opened.history_is ∙ ap (history_from beginning) same;
      notes_are = opens.is_opened.notes_are ∙ ap (notes_from no_notes) same;
    }

-- a crash within a commit leaves the store without what was staged, or with all of it
pub crash_shows : {D : Type 0} (store again : StoreView D) (old new : DiskMeaning) (given : Actor) → old.told
    → IsBeforeOrAfter store.journal.records store.staged old.seen → OpensOn old new given again
    → Shows again store.journal.records ⊎ Shows again (all_records store)
crash_shows store again old new given told (inl before) opens = inl (opens_showing again old new given store.journal.records told before opens)
crash_shows store again old new given told (inr later) opens = inr (opens_showing again old new given (all_records store) told later opens)

-- what a store shows are its records, held and staged
pub store_shows : {D : Type 0} (store : StoreView D) → IsStore store → Shows store (all_records store)
store_shows store is = record { history_is = is.history_is; notes_are = is.notes_are }
