-- Histories as changes come.
use Rattle.std.specs.Prelude.{◌^◌, ◌≤◌, [], length}
use Rattle.change_codec.specs.Change.{Change}
use Rattle.change_codec.specs.Encoding.{change_format}
use Rattle.change_graph.specs.History.{History, with_change}
use Rattle.change_graph.specs.Answers.{IsNext}
use Rattle.change_graph.specs.Refusals.{things}

-- the change may come next: it has an encoding, and the indices of what it makes fit u64
pub record MayCome (history : History) (change : Change) : Type 0 where
  pub next : IsNext history change
  pub encoded : change_format.Fits change
  pub fits : length (things change.ops) ≤ 2 ^ 64

-- a history to which changes came one by one, each of which might come next
pub data IsGrown : History → Type 0 where
  Begun : IsGrown []
  Come : (history : History) (change : Change) → IsGrown history → MayCome history change → IsGrown (with_change history change)
