-- What each call of a store does to it, and when it is refused.
use Rattle.std.specs.Prelude.{◌≡◌, ◌≢◌, ◌⊎◌, ℕ, ◌+◌, ◌<◌, List, [], ◌∷◌, ◌++◌, length, replicate, IsTrue, is_some, false}
use Rattle.delta.specs.Cells.{Cells, applied, base_length}
use Rattle.tt_base.specs.declared.ids.Actor.{Actor}
use Rattle.tt_base.specs.declared.ids.Name.{Name}
use Rattle.change_codec.specs.Change.{Change}
use Rattle.change_codec.specs.Encoding.{change_format}
use Rattle.change_graph.specs.History.{History, name_of, with_change}
use Rattle.change_graph.specs.Adding.{IsRefused}
use Rattle.change_graph.specs.declared.faults.GraphFault.{GraphFault}
use Rattle.change_graph.specs.declared.faults.GraphFault.TheVariants.{Clash, MissingDeps, BadChange, Memory}
use Rattle.change_graph.specs.Answers.{IsRepeat, IsClash}
use Rattle.change_journal.specs.Held.{JournalView}
use Rattle.journal_format.specs.Image.{open_group}
use Rattle.journal_format.specs.declared.records.Note.{Note}
use Rattle.journal_format.specs.declared.records.Record.{Record}
use Rattle.journal_format.specs.declared.records.Record.TheVariants as records
use Rattle.replica_store.specs.declared.TheConstants.{LONGEST_TEXT}
use Rattle.replica_store.specs.declared.faults.StoreFault.{StoreFault}
use Rattle.replica_store.specs.declared.faults.StoreFault.TheVariants as faults
use Rattle.replica_store.specs.Records.{no_notes, with_note, note_at, history_from, notes_from, actor_from, begun}
use Rattle.replica_store.specs.Store.{StoreView}
use Rattle.replica_views.specs.Effects.{PathEffect, AreEffects}
use Rattle.replica_views.specs.Growth.{MayCome}
use Rattle.replica_views.specs.Laws.{only_effect}
use Rattle.replica_views.specs.Made.{made, removed}
use Rattle.replica_views.specs.Views.{beginning, view_at, text_at}

-- ---- a change more

-- the store with one change more, whose record is staged
abbrev pub with_staged : {D : Type 0} → StoreView D → Change → StoreView D
with_staged store change = record store {
  history = with_change store.history change;
  staged = store.staged ++ records.Change (change_format.spelled change) ∷ [];
}

-- the change may come next, is held and staged now, and these are its effects
pub record IsAdded {D : Type 0} (old : StoreView D) (change : Change) (new : StoreView D) (effects : List PathEffect) : Type 0 where
  pub may : MayCome old.history change
  pub new_is : new ≡ with_staged old change
  pub are_effects : AreEffects old.history new.history effects

-- the change was held before, and nothing changed
pub record IsRepeated {D : Type 0} (old : StoreView D) (change : Change) (new : StoreView D) : Type 0 where
  pub held : IsRepeat old.history change
  pub new_is : new ≡ old

-- it is refused as a graph refuses it, and nothing changed; without memory the store is of no more use than its disk
abbrev pub IsNotAdded : {D : Type 0} → StoreView D → Change → StoreView D → GraphFault → Type 0
IsNotAdded old change new (Clash bytes given) = IsRefused old.history change (Clash bytes given) × (new ≡ old)
IsNotAdded old change new (MissingDeps names) = IsRefused old.history change (MissingDeps names) × (new ≡ old)
IsNotAdded old change new (BadChange place cause) = IsRefused old.history change (BadChange place cause) × (new ≡ old)
IsNotAdded old change new Memory = new.live ≡ false

-- ---- own changes

-- what a store makes: the name of its change, and the effects
pub record Making : Type 0 where
  pub name : Name
  pub effects : List PathEffect

-- a change of its own was made and added
pub record IsOwn {D : Type 0} (old : StoreView D) (change : Change) (new : StoreView D) (making : Making) : Type 0 where
  pub added : IsAdded old change new making.effects
  pub name_is : making.name ≡ name_of change

-- the change for a delta of the text at a path, where an absent file is read as the empty text
abbrev pub IsMade : {D : Type 0} → StoreView D → List ℕ → Cells → StoreView D → Making → Type 0
IsMade old path d new making = IsOwn old (made old.history old.actor path d) new making

-- what is answered where the change for a delta is added: the delta is its one effect, if it is any
abbrev pub made_answer : {D : Type 0} → StoreView D → List ℕ → Cells → Making
made_answer store path d = record { name = name_of (made store.history store.actor path d); effects = only_effect path d }

-- the change that removes the file at a path
abbrev pub IsRemoved : {D : Type 0} → StoreView D → List ℕ → StoreView D → Making → Type 0
IsRemoved old path new making = IsOwn old (removed old.history old.actor path) new making

-- the delta is for the text at the path
abbrev pub CanMake : {D : Type 0} → StoreView D → List ℕ → Cells → Type 0
CanMake store path d = base_length d ≡ length (text_at store.history path)

-- there is a file at the path
abbrev pub CanRemove : {D : Type 0} → StoreView D → List ℕ → Type 0
CanRemove store path = IsTrue (is_some (view_at store.history path))

-- the text would have so many characters, which are more than a text may have and more than it has
pub record IsTooLong (history : History) (path : List ℕ) (d : Cells) (count : ℕ) : Type 0 where
  pub counted : count ≡ length (applied d (text_at history path))
  pub above : LONGEST_TEXT < count
  pub longer : length (text_at history path) < count

-- a making is refused first for its length, and then where another change is held under the name of the new one
pub record IsMakingClash (history : History) (actor : Actor) (path : List ℕ) (d : Cells) (held given : List ℕ) : Type 0 where
  pub short : (count : ℕ) → IsTooLong history path d count → ⊥
  pub clash : IsClash history (made history actor path d) held given

-- no length of the text is too long
abbrev pub IsShort : {D : Type 0} → StoreView D → List ℕ → Cells → Type 0
IsShort store path d = (count : ℕ) → IsTooLong store.history path d count → ⊥

-- why the change for a delta was not made: nothing changed then; without memory the store is of no more use than its disk
abbrev pub IsNotMade : {D : Type 0} → StoreView D → List ℕ → Cells → StoreView D → StoreFault → Type 0
IsNotMade old path d new (faults.TextTooLong count) = IsTooLong old.history path d count × (new ≡ old)
IsNotMade old path d new (faults.Clash held given) = IsMakingClash old.history old.actor path d held given × (new ≡ old)
IsNotMade old path d new faults.Memory = new.live ≡ false

-- why a file was not removed: only where another change is held under the name, or without memory
abbrev pub IsNotRemoved : {D : Type 0} → StoreView D → List ℕ → StoreView D → StoreFault → Type 0
IsNotRemoved old path new (faults.TextTooLong count) = ⊥
IsNotRemoved old path new (faults.Clash held given) = IsClash old.history (removed old.history old.actor path) held given × (new ≡ old)
IsNotRemoved old path new faults.Memory = new.live ≡ false

-- ---- notes

-- the store with the note of a path, whose record is staged
abbrev pub with_noted : {D : Type 0} → StoreView D → List ℕ → Note → StoreView D
with_noted store path note = record store {
  notes = with_note store.notes (records.Note path note);
  staged = store.staged ++ records.Note path note ∷ [];
}

-- a note is staged only where it is another than the one that is kept
abbrev pub IsNoted : {D : Type 0} → StoreView D → List ℕ → Note → StoreView D → Type 0
IsNoted old path note new =
    ((note_at old.notes path ≡ note) × (new ≡ old)) ⊎ ((note_at old.notes path ≢ note) × (new ≡ with_noted old path note))

-- ---- the disk

-- The journal has the staged records as one group behind the others, and all else is as before.
pub record IsGroupMore {D : Type 0} (old new : JournalView D) (added : List Record) : Type 0 where
  pub records_are : new.records ≡ old.records ++ added
  pub gates_are : new.gates ≡ old.gates ++ replicate (length added) old.end
  pub end_is : new.end ≡ old.end + length (open_group added)
  pub live : IsTrue new.live

-- what is staged is on the disk: as one group, and nothing is written where nothing is staged
abbrev pub IsWritten : {D : Type 0} → JournalView D → JournalView D → List Record → Type 0
IsWritten old new [] = new ≡ old
IsWritten old new (first ∷ others) = IsGroupMore old new (first ∷ others)

-- what was staged is on the disk
pub record IsCommitted {D : Type 0} (old new : StoreView D) : Type 0 where
  pub written : IsWritten old.journal new.journal old.staged
  pub same : new ≡ record old { journal = new.journal; staged = [] }

-- a store over a journal that was opened with these records, for this daemon where it has none yet
pub record IsOpened {D : Type 0} (recorded : List Record) (given : Actor) (store : StoreView D) : Type 0 where
  pub records_are : store.journal.records ≡ begun given recorded
  pub actor_is : store.actor ≡ actor_from given recorded
  pub none_staged : store.staged ≡ []
  pub history_is : store.history ≡ history_from beginning recorded
  pub notes_are : store.notes ≡ notes_from no_notes recorded
  pub live : IsTrue store.live
