-- What a change does to the texts that are shown, as it is found from what stood before and what stands now.
use Rattle.std.specs.Prelude.{ℕ, List, [], ◌∷◌, Option, Some, None, if◌then◌else◌}
use Rattle.delta.specs.Cells.{Cells, changes_nothing, inserts, deleting}
use Rattle.tt_base.specs.declared.ids.ElemId.{ElemId}
use Rattle.replica_dir.specs.DirectoryView.{DirectoryView}
use Rattle.replica_text.specs.Effect.{text_of}
use Rattle.replica_views.specs.Effects.{PathEffect, is_same_object}
use Rattle.replica_history.specs.declared.standings.Standing.{Standing}
use Rattle.replica_history.specs.Texts.{TextsView, elements_of_winner}
use Rattle.replica_history.specs.Joins.{delta_at}
use Rattle.replica_history.specs.Standings.{winner_in}

abbrev pub delta_of_winner : List (ElemId × Cells) → Option ElemId → Option Cells
delta_of_winner deltas None = None
delta_of_winner deltas (Some object) = delta_at deltas object

-- The delta at a path: where the same object is read, what was joined to it, if anything; else the one text in place of the other.
abbrev pub delta_shown : TextsView → List (ElemId × Cells) → Standing → Option ElemId → Option Cells
delta_shown texts deltas before winner =
    if is_same_object before.winner winner then delta_of_winner deltas winner
    else Some (inserts (text_of (elements_of_winner texts winner)) (deleting before.length))

-- an effect, where there is one
abbrev pub effect_of : List ℕ → Option Cells → List PathEffect
effect_of path None = []
effect_of path (Some delta) = if changes_nothing delta then [] else record { path = path; delta = delta } ∷ []

-- the effect on a path, where there is one
abbrev pub effect_shown : DirectoryView → TextsView → List (ElemId × Cells) → List ℕ × Standing → List PathEffect
effect_shown directory texts deltas noted = effect_of noted.0 (delta_shown texts deltas noted.1 (winner_in directory noted.0))
