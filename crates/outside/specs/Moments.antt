-- What a crash leaves at any moment of a run of calls.
use Rattle.std.specs.Prelude.{◌⊎◌, ◌≤◌, ℕ, List}
use Rattle.outside.specs.DiskMeaning.{DiskMeaning, MayLeave}

-- a crash now leaves only images that have P
abbrev pub LeavesNow : DiskMeaning → (List ℕ → Type 0) → Type 0
LeavesNow disk P = (image : List ℕ) → MayLeave disk image → P image

-- a crash at any moment since old leaves only images that have P
pub record LeavesOnly (old new : DiskMeaning) (P : List ℕ → Type 0) : Type 0 where
  pub later : old.moment ≤ new.moment
  pub each : (image : List ℕ) → new.since old.moment image → P image
  -- for a run that began earlier
  pub before : (t : ℕ) (image : List ℕ) → t ≤ old.moment → new.since t image → old.since t image ⊎ P image
