-- What a store shows of what its daemon holds, and what a made change does to it.
use Rattle.std.specs.Prelude.{◌≡◌, ◌≢◌, ℕ, ◌+◌, List, [], ◌∷◌, ◌++◌, Some, IsTrue}
use Rattle.delta.specs.Cells.{Cells, applied}
use Rattle.tt_base.specs.declared.ids.Name.{Name}
use Rattle.change_codec.specs.Encoding.{change_format}
use Rattle.change_graph.specs.History.{change_at, is_held}
use Rattle.journal_format.specs.declared.records.Record.TheVariants as records
use Rattle.replica_views.specs.Made as views
use Rattle.replica_store.specs.Store.{StoreView, all_records}
use Rattle.daemon_history.specs.Holding.{Holding, IsHolding, view_at, text_at, held}

-- what the daemon of a store holds: its records are those on the disk and those that are staged
abbrev pub shown : {D : Type 0} → StoreView D → Holding
shown store = record { actor = store.actor; recorded = all_records store; history = store.history; notes = store.notes }

-- each change that is held is held later, under its name
abbrev pub KeepsNames : Holding → Holding → Type 0
KeepsNames h after = (name : Name) → IsTrue (is_held h.history name) → change_at after.history name ≡ change_at h.history name

-- One change more was made and recorded: the text at the path has the delta, each other path has its file as before, and all that was held still is.
pub record ChangesOne (h : Holding) (path : List ℕ) (d : Cells) (after : Holding) : Type 0 where
  pub holds : IsHolding after
  pub view : view_at after path ≡ Some (applied d (text_at h path))
  pub text : text_at after path ≡ applied d (text_at h path)
  pub elsewhere : (other : List ℕ) → other ≢ path → view_at after other ≡ view_at h other
  pub count : held after ≡ held h + 1
  pub recorded : after.recorded ≡ h.recorded ++ records.Change (change_format.spelled (views.made h.history h.actor path d)) ∷ []
  pub names : KeepsNames h after
