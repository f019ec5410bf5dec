-- What contracts see of a store, and what every store keeps.
use Rattle.std.specs.Prelude.{◌≡◌, Bool, List, ◌++◌, IsTrue}
use Rattle.std.specs.List.{AllByRecursion}
use Rattle.tt_base.specs.declared.ids.Actor.{Actor}
use Rattle.change_graph.specs.History.{History}
use Rattle.change_journal.specs.Held.{JournalView}
use Rattle.journal_format.specs.Encoding.{HoldsEncoding}
use Rattle.journal_format.specs.Image.{actor_is_first}
use Rattle.journal_format.specs.declared.records.Record.{Record}
use Rattle.replica_views.specs.Views.{beginning}
use Rattle.replica_store.specs.Records.{Notes, no_notes, history_from, notes_from, actor_from, AreTaken}

-- A store: the journal with the records on its disk, the daemon whose it is, the records that are staged for the next commit, the
-- history and the notes of all of them, and whether no changing call has failed. The texts, the directory and the graph are
-- readings of the history.
pub record StoreView (D : Type 0) : Type 0 where
  pub journal : JournalView D
  pub actor : Actor
  pub staged : List Record
  pub history : History
  pub notes : Notes
  pub live : Bool

-- the records on the disk, and then those that are staged
abbrev pub all_records : {D : Type 0} → StoreView D → List Record
all_records store = store.journal.records ++ store.staged

-- The history and the notes are those of the records, held and staged, each of which was taken. The journal has its daemon's record,
-- which stands first, and what is staged may be appended to it.
pub record IsStore {D : Type 0} (store : StoreView D) : Type 0 where
  pub writes : IsTrue store.journal.live
  pub history_is : store.history ≡ history_from beginning (all_records store)
  pub notes_are : store.notes ≡ notes_from no_notes (all_records store)
  pub taken : AreTaken beginning (all_records store)
  pub owner : (given : Actor) → actor_from given store.journal.records ≡ store.actor
  pub first : IsTrue (actor_is_first (all_records store))
  pub encodings : AllByRecursion HoldsEncoding store.staged
