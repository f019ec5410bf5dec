-- What the laws of readings speak of.
use Rattle.std.specs.Prelude.{◌≡◌, ◌≢◌, ℕ, true, List, [], ◌∷◌, Some, None, if◌then◌else◌}
use Rattle.delta.specs.Cells.{Cells, applied, changes_nothing}
use Rattle.change_codec.specs.Change.{Change}
use Rattle.change_graph.specs.History.{History, with_change}
use Rattle.replica_views.specs.Views.{view_at, text_at}
use Rattle.replica_views.specs.Effects.{PathEffect, effect_at, AreEffects}

-- the effects of a change that does this at a path and nothing elsewhere
abbrev pub only_effect : List ℕ → Cells → List PathEffect
only_effect path d = if changes_nothing d then [] else record { path = path; delta = d } ∷ []

-- The change has the delta as its effect at the path, where its text is that of before with the delta, and no other path has an
-- effect or another view.
pub record DoesOnly (history : History) (change : Change) (path : List ℕ) (d : Cells) : Type 0 where
  pub view : view_at (with_change history change) path ≡ Some (applied d (text_at history path))
  pub effects : AreEffects history (with_change history change) (only_effect path d)
  pub here : effect_at history (with_change history change) path ≡ d
  pub elsewhere : (other : List ℕ) → other ≢ path → changes_nothing (effect_at history (with_change history change) other) ≡ true
  pub views : (other : List ℕ) → other ≢ path → view_at (with_change history change) other ≡ view_at history other

-- with the change no file is at the path, and no other path has an effect or another view
pub record RemovesOnly (history : History) (change : Change) (path : List ℕ) : Type 0 where
  pub gone : view_at (with_change history change) path ≡ None
  pub elsewhere : (other : List ℕ) → other ≢ path → changes_nothing (effect_at history (with_change history change) other) ≡ true
  pub views : (other : List ℕ) → other ≢ path → view_at (with_change history change) other ≡ view_at history other
