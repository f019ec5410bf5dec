-- What a composition that is under way will leave.
use Rattle.std.specs.Prelude.{◌≡◌, ℕ, ◌+◌, Bool, true, false, ◌++◌, List}
use Rattle.delta.specs.Cells.{Cells, base_length, result_length, joined, inserting}
use Rattle.delta.specs.Marks.{Mark, applied_marks, marks_of, marks_from}
use Rattle.delta.specs.Steps.{after_step, step_base}
use Rattle.delta.specs.declared.steps.DeltaStep.{DeltaStep}
use Rattle.delta.specs.declared.steps.DeltaStep.TheVariants.{Keep, Delete}

-- the marks of what is built, and then those of the rest of the first delta after the rest of the second
abbrev pub composing : Cells → Cells → Cells → List Mark
composing built first second = marks_of built ++ applied_marks second (marks_from (base_length built) first)

abbrev pub run_step : Bool → ℕ → DeltaStep
run_step true n = Keep n
run_step false n = Delete n

-- what is built, with a text behind it where that is kept
abbrev pub inserted_if : Bool → List ℕ → Cells → Cells
inserted_if true text built = joined built (inserting text)
inserted_if false text built = built

-- a step of the second delta was handled: what will be left, and how much of the first is handled
pub record Composes (step : DeltaStep) (old_built new_built old_first new_first : Cells) : Type 0 where
  pub leaves : (second : Cells) → composing new_built new_first second ≡ composing old_built old_first (after_step step second)
  pub base : base_length new_built + base_length new_first ≡ base_length old_built + base_length old_first
  pub result : result_length new_first + step_base step ≡ result_length old_first
