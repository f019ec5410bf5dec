-- A change as contracts see it.
use Rattle.std.specs.Prelude.{ℕ, List}
use Rattle.tt_base.specs.declared.ids.Name.{Name}
use Rattle.tt_base.specs.declared.ids.Actor.{Actor}
use Rattle.change_codec.specs.declared.ops.Op.{Op}

-- Who made it, a number of theirs, the changes that it knew as the last, and what it does, in order.
-- A change names its predecessors by hash (Automerge: Kleppmann and Beresford, 2017).
pub record Change : Type 0 where
  pub actor : Actor
  pub seq : ℕ
  pub deps : List Name
  pub ops : List Op
