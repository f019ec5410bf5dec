-- What a daemon holds. A state machine that is kept as the list of all that it ever recorded (write-ahead logging, as in Mohan and
-- others, 1992): its changes and its notes are readings of the records.
use Rattle.std.specs.Prelude.{◌≡◌, ℕ, List, [], Option, IsTrue}
use Rattle.tt_base.specs.declared.ids.Actor.{Actor}
use Rattle.change_graph.specs.History.{History}
use Rattle.journal_format.specs.Image.{actor_is_first}
use Rattle.journal_format.specs.declared.records.Note.{Note}
use Rattle.journal_format.specs.declared.records.Record.{Record}
use Rattle.replica_views.specs.Views as views
use Rattle.replica_store.specs.Records.{Notes, no_notes, note_at, history_from, notes_from, actor_from, begun, AreTaken}

-- the daemon whose it is, all that it has recorded, and the changes and notes of that
pub record Holding : Type 0 where
  pub actor : Actor
  pub recorded : List Record
  pub history : History
  pub notes : Notes

-- what a daemon that is started on these records holds; where there are none, its own is the first
abbrev pub started : Actor → List Record → Holding
started given recorded =
    record {
      actor = actor_from given recorded;
      recorded = begun given recorded;
      history = history_from views.beginning recorded;
      notes = notes_from no_notes recorded;
    }

-- before the first change
abbrev pub new_holding : Actor → Holding
new_holding actor = started actor []

-- The changes and the notes are those of the records, each of which was taken; the first record is the daemon's own.
pub record IsHolding (h : Holding) : Type 0 where
  pub history_is : h.history ≡ history_from views.beginning h.recorded
  pub notes_are : h.notes ≡ notes_from no_notes h.recorded
  pub taken : AreTaken views.beginning h.recorded
  pub owner : (given : Actor) → actor_from given h.recorded ≡ h.actor
  pub first : IsTrue (actor_is_first h.recorded)

-- the text at a path, where there is a file
abbrev pub view_at : Holding → List ℕ → Option (List ℕ)
view_at h path = views.view_at h.history path

-- a file that is absent is read as the empty text
abbrev pub text_at : Holding → List ℕ → List ℕ
text_at h path = views.text_at h.history path

-- how many changes are held
abbrev pub held : Holding → ℕ
held h = views.held h.history

-- the note of a path
abbrev pub note_of : Holding → List ℕ → Note
note_of h path = note_at h.notes path
