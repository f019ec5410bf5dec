-- What a carrying that is under way will give.
use Rattle.std.specs.Prelude.{◌≡◌, ℕ, ◌+◌, Bool, true, false}
use Rattle.delta.specs.Cells.{Cells, base_length, result_length, covers, joined}
use Rattle.delta.specs.Steps.{after_step, step_base, step_result}
use Rattle.delta.specs.declared.steps.DeltaStep.{DeltaStep}
use Rattle.transform.specs.Carried.{carried}
use Rattle.transform.specs.declared.sides.Side.{Side}
use Rattle.transform.specs.declared.sides.Side.TheVariants.{Editor, Daemon}

abbrev pub number_if : Bool → ℕ → ℕ
number_if true n = n
number_if false n = 0

-- how much the base may grow that is built, while a run of the daemon's delta is handled
abbrev pub room : Side → Bool → ℕ → Cells → ℕ
room Editor kept most editor = number_if kept most
room Daemon kept most editor = result_length editor

-- a run of the daemon's delta is handled from most characters that are left of it to left ones
pub record Passes (side : Side) (kept : Bool) (most left : ℕ) (old_built new_built old_editor new_editor : Cells) : Type 0 where
  pub gives : (daemon : Cells) → joined new_built (carried side (covers kept left daemon) new_editor) ≡ joined old_built (carried side (covers kept most daemon) old_editor)
  pub base : base_length new_editor + most ≡ base_length old_editor + left
  pub room : base_length new_built + room side kept left new_editor ≡ base_length old_built + room side kept most old_editor

-- a step of the daemon's delta is handled
pub record PassesStep (side : Side) (step : DeltaStep) (old_built new_built old_editor new_editor : Cells) : Type 0 where
  pub gives : (daemon : Cells) → joined new_built (carried side daemon new_editor) ≡ joined old_built (carried side (after_step step daemon) old_editor)
  pub base : base_length new_editor + step_base step ≡ base_length old_editor

-- how much the base may grow that is built, while a step of the daemon's delta is handled
abbrev pub step_room : Side → DeltaStep → Cells → ℕ
step_room Editor step editor = step_result step
step_room Daemon step editor = result_length editor
