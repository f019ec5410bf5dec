use Rattle.std.specs.Prelude.{ℕ, List, Option}

-- what a sink tells
pub record SinkMeaning : Type 0 where
  pub written : Option (List ℕ)  -- the bytes written so far, where it tells them
  pub faults : ℕ  -- how many writes have failed
