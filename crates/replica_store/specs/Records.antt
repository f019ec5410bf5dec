-- What the records of a journal give: the changes that are held, the notes of paths, and whose journal it is.
use Rattle.std.specs.Prelude.{◌≡◌, ◌≢◌, ◌⊎◌, ℕ, List, [], ◌∷◌, ◌++◌, length, Result, Ok, Err, if◌then◌else◌, slice_index}
use Rattle.std.specs.BTreeMap.{insert_entry}
use Rattle.std.specs.Cmp.Lexicographic.{slice_cmp}
use Rattle.std.specs.Map.{lookup}
use Rattle.std.specs.Option.{unwrap_or}
use Rattle.std.specs.Ordering.{nat_cmp}
use Rattle.tt_base.specs.declared.ids.Actor.{Actor}
use Rattle.byte_format.specs.Format.{whole}
use Rattle.byte_format.specs.declared.faults.Outside.{Outside}
use Rattle.change_codec.specs.Change.{Change}
use Rattle.change_codec.specs.Encoding.{change_format}
use Rattle.change_graph.specs.History.{History, is_held, name_of, with_change}
use Rattle.change_graph.specs.Adding.{IsRefused}
use Rattle.change_graph.specs.Answers.{IsRepeat}
use Rattle.change_graph.specs.declared.faults.GraphFault.{GraphFault}
use Rattle.change_graph.specs.declared.faults.GraphFault.TheVariants.{Memory}
use Rattle.journal_format.specs.declared.records.Known.TheVariants.{Absent}
use Rattle.journal_format.specs.declared.records.Note.{Note}
use Rattle.journal_format.specs.declared.records.Note.TheVariants.{One}
use Rattle.journal_format.specs.declared.records.Record.{Record}
use Rattle.journal_format.specs.declared.records.Record.TheVariants as records
use Rattle.replica_dir.specs.Ids.{is_path}
use Rattle.replica_views.specs.Growth.{MayCome}
use Rattle.replica_views.specs.Views.{beginning}

-- ---- changes

-- a change more, unless one is held under its name
abbrev pub with_new : History → Change → History
with_new history change = if is_held history (name_of change) then history else with_change history change

abbrev pub with_read : History → Result Change Outside → History
with_read history (Ok change) = with_new history change
with_read history (Err outside) = history

-- A record more. A repeat is passed over; what is no change's encoding is in no journal.
abbrev pub with_record : History → Record → History
with_record history (records.Actor actor) = history
with_record history (records.Change encoding) = with_read history (whole change_format encoding)
with_record history (records.Note path note) = history

-- the history that records give, after this one
abbrev pub history_from : History → List Record → History
history_from history [] = history
history_from history (record_here ∷ others) = history_from (with_record history record_here) others

abbrev pub IsTakenAs : History → Result Change Outside → Type 0
IsTakenAs history (Ok change) = IsRepeat history change ⊎ MayCome history change
IsTakenAs history (Err outside) = ⊥

-- a change's record is taken where its change is held already, or may come next
abbrev pub IsTaken : History → Record → Type 0
IsTaken history (records.Actor actor) = Unit {0}
IsTaken history (records.Change encoding) = IsTakenAs history (whole change_format encoding)
IsTaken history (records.Note path note) = Unit {0}

-- all records are taken, one after another
abbrev pub AreTaken : History → List Record → Type 0
AreTaken history [] = Unit {0}
AreTaken history (record_here ∷ others) = IsTaken history record_here × AreTaken (with_record history record_here) others

-- the record at this place is the first whose change is refused where the others before it are held
pub record IsFirstRefused (recorded : List Record) (place : ℕ) : Type 0 where
  pub before : List Record
  pub change : Change
  pub behind : List Record
  pub records_are : recorded ≡ before ++ records.Change (change_format.spelled change) ∷ behind
  pub place_is : place ≡ length before
  pub fits : change_format.Fits change
  pub taken : AreTaken beginning before
  pub fault : GraphFault
  pub refused : IsRefused (history_from beginning before) change fault
  pub some : fault ≢ Memory

-- The open gate at this offset is that of the group with the first change that is refused, where each record has the gate of its
-- group beside it.
pub record IsBadAt (recorded : List Record) (gates : List ℕ) (offset : ℕ) : Type 0 where
  pub place : ℕ
  pub first : IsFirstRefused recorded place
  pub gate : offset ≡ slice_index gates place

-- ---- notes

-- the notes of paths: each path with its last note, in the order of paths
abbrev pub Notes : Type 0
Notes = List (List ℕ × Note)

-- before the first note
abbrev pub no_notes : Notes
no_notes = []

abbrev pub with_note : Notes → Record → Notes
with_note notes (records.Actor actor) = notes
with_note notes (records.Change encoding) = notes
with_note notes (records.Note path note) = insert_entry (slice_cmp nat_cmp) notes path note

-- the notes that records give, after these
abbrev pub notes_from : Notes → List Record → Notes
notes_from notes [] = notes
notes_from notes (record_here ∷ others) = notes_from (with_note notes record_here) others

-- the note of a path: at first, that it is known to be absent
abbrev pub note_at : Notes → List ℕ → Note
note_at notes path = unwrap_or (lookup (is_path path) notes) (One Absent)

-- ---- the daemon

abbrev pub actor_or : Actor → Record → Actor
actor_or actor (records.Actor own) = own
actor_or actor (records.Change encoding) = actor
actor_or actor (records.Note path note) = actor

-- whose journal it is: that of its first record, and of this daemon where there is none
abbrev pub actor_from : Actor → List Record → Actor
actor_from actor [] = actor
actor_from actor (first ∷ others) = actor_or actor first

-- the records of a journal once a store has opened it: one without records gets the daemon's
abbrev pub begun : Actor → List Record → List Record
begun actor [] = records.Actor actor ∷ []
begun actor (first ∷ others) = first ∷ others
