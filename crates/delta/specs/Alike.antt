-- Deltas that differ in their form alone.
use Rattle.std.specs.Prelude.{◌≡◌, ℕ}
use Rattle.delta.specs.Cells.{Cells, base_length, result_length}
use Rattle.delta.specs.Marks.{marks_from}

-- two deltas of one base length that leave the same marks, wherever their base begins
pub record IsAlike (d e : Cells) : Type 0 where
  pub base : base_length d ≡ base_length e
  pub result : result_length d ≡ result_length e
  pub marks : (i : ℕ) → marks_from i d ≡ marks_from i e
