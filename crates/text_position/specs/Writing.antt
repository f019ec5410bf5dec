-- The changes of a list of steps, as they are written from its front.
use Rattle.std.specs.Prelude.{ℕ, ◌+◌, true, not, List, [], ◌∷◌, ◌++◌}
use Rattle.delta.specs.Cells.{is_nothing}
use Rattle.delta.specs.Steps.{step_base}
use Rattle.delta.specs.declared.steps.DeltaStep.{DeltaStep}
use Rattle.delta.specs.declared.steps.DeltaStep.TheVariants.{Keep, Insert, Delete}
use Rattle.text_position.specs.Changes.{Change, change_if}

-- the change of a text that waits at a gap behind which nothing is deleted
abbrev pub change_at_end : ℕ → List ℕ → List Change
change_at_end gap waiting = change_if (not (is_nothing waiting)) gap 0 waiting

-- the change at a gap, where a text waits that is inserted there and no change has yet
abbrev pub change_before : ℕ → List ℕ → DeltaStep → List Change
change_before gap waiting (Keep n) = change_at_end gap waiting
change_before gap waiting (Insert text) = []
change_before gap waiting (Delete n) = change_if true gap n waiting

-- the text that waits behind a step
abbrev pub waiting_behind : DeltaStep → List ℕ
waiting_behind (Keep n) = []
waiting_behind (Insert text) = text
waiting_behind (Delete n) = []

-- the changes that are left at a gap, where a text waits
abbrev pub changes_ahead : ℕ → List ℕ → List DeltaStep → List Change
changes_ahead gap waiting [] = change_at_end gap waiting
changes_ahead gap waiting (step ∷ steps) =
    change_before gap waiting step ++ changes_ahead (gap + step_base step) (waiting_behind step) steps
