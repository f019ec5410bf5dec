-- What a daemon adds to what it holds: a change of its own, or the note of a path.
use Rattle.std.specs.Prelude.{Bool, true, false, List, [], ◌∷◌, ◌++◌, Option, Some, None, Result, Ok, Err, if◌then◌else◌, ℕ}
use Rattle.delta.specs.Cells.{Cells}
use Rattle.change_codec.specs.Change.{Change}
use Rattle.change_codec.specs.Encoding.{change_format}
use Rattle.change_graph.specs.History as graph
use Rattle.journal_format.specs.declared.records.Note.{Note}
use Rattle.journal_format.specs.declared.records.Note.TheVariants.{Open, One, Two}
use Rattle.journal_format.specs.declared.records.Record.TheVariants as records
use Rattle.replica_views.specs.Made as views
use Rattle.replica_store.specs.Records.{with_note}
use Rattle.daemon_history.specs.Holding.{Holding, note_of}

-- a change more, and its record
abbrev pub with_change : Holding → Change → Holding
with_change h change = record h {
  history = graph.with_change h.history change;
  recorded = h.recorded ++ records.Change (change_format.spelled change) ∷ [];
}

-- two changes that have one name, by their encodings
pub record Clash : Type 0 where
  pub held : List ℕ
  pub given : List ℕ

abbrev pub unless_held : Option Change → Holding → Change → Result Holding Clash
unless_held None h change = Ok (with_change h change)
unless_held (Some other) h change = Err (record { held = change_format.spelled other; given = change_format.spelled change })

-- A change of the daemon's own is held and recorded, unless one is held under its name: that is another one, since its own knows
-- all that are held.
abbrev pub owned : Holding → Change → Result Holding Clash
owned h change = unless_held (graph.change_at h.history (graph.name_of change)) h change

-- the change for a delta of the text at a path
abbrev pub making : Holding → List ℕ → Cells → Result Holding Clash
making h path d = owned h (views.made h.history h.actor path d)

-- the change that removes the file at a path
abbrev pub removing : Holding → List ℕ → Result Holding Clash
removing h path = owned h (views.removed h.history h.actor path)

-- the note of a path, and its record
abbrev pub with_noted : Holding → List ℕ → Note → Holding
with_noted h path note = record h {
  notes = with_note h.notes (records.Note path note);
  recorded = h.recorded ++ records.Note path note ∷ [];
}

-- whether it says that an editor has opened the path
abbrev pub is_open : Note → Bool
is_open Open = true
is_open (One known) = false
is_open (Two before behind) = false

-- an editor opens the path: its note says so, which is recorded where it did not
abbrev pub opening : Holding → List ℕ → Holding
opening h path = if is_open (note_of h path) then h else with_noted h path Open
