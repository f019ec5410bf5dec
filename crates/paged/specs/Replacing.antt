-- What a change of pages leaves.
use Rattle.std.specs.Prelude.{◌≡◌, ℕ, ◌+◌, List}
use Rattle.std.specs.List.{splice, All}
use Rattle.paged.specs.Pages.{flat, HasLength}

-- the pages from one index up to another gave way to pages of some items
pub record IsReplaced {A : Type 0} (half : ℕ) (pages : List (List A)) (from to : ℕ) (items : List A) (after : List (List A)) : Type 0 where
  pub run : List (List A)
  pub after_is : after ≡ splice pages from to run
  pub whole : flat run ≡ items
  pub each : All (HasLength half (half + half)) run
