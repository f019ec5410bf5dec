use Rattle.std.specs.Prelude.{ℕ, Bool, List, Option}

-- what a source tells
pub record SourceMeaning : Type 0 where
  pub left : Option (List ℕ)  -- the bytes that are left, where it tells them
  pub ended : Bool  -- whether it has answered that it ended
  pub faults : ℕ  -- how many reads have failed
