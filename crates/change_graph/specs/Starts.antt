-- Where the indices of each operation begin.
use Rattle.std.specs.Prelude.{◌≡◌, ℕ, ◌<◌, ◌≤◌, List, length, take, slice_index}
use Rattle.change_codec.specs.declared.ops.Op.{Op}
use Rattle.change_graph.specs.declared.starts.Landing.{Landing}
use Rattle.change_graph.specs.Refusals.{things}

-- these are the indices at which the first operations begin, for some of them
pub record AreStarts (ops : List Op) (starts : List ℕ) : Type 0 where
  pub few : length starts ≤ length ops
  pub exact : (place : ℕ) → place < length starts → slice_index starts place ≡ length (things (take place ops))

-- an operation, and the index at which it begins, which is not behind this one
pub record IsLanding (ops : List Op) (index : ℕ) (landing : Landing) : Type 0 where
  pub within : landing.place ≤ length ops
  pub begins : landing.start ≡ length (things (take landing.place ops))
  pub before : landing.start ≤ index
