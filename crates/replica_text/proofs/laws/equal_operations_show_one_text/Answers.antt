use Rattle.std.proofs.Common.{[], ap}
use Rattle.replica_text.specs.Ids.{is_known}
use Rattle.replica_text.specs.Tree.{Tree, Leaf, walk}
use Rattle.replica_text.specs.Effect.{text_of}
use Rattle.replica_text.proofs.AnyOrder.{any_order}
use Rattle.replica_text.proofs.laws.equal_operations_show_one_text.Goals as goal

pub returns : goal.returns
returns c = λ one other r h k. ap (λ (tree : Tree). text_of (walk tree)) (any_order (is_known []) one other Leaf r h k)
