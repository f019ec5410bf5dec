-- What a graph keeps.
use Rattle.std.specs.Prelude.{List}
use Rattle.tt_base.specs.declared.ids.Name.{Name}
use Rattle.change_graph.specs.Answers.{IsHeads}
use Rattle.change_graph.specs.Histories.{IsHistory}
use Rattle.change_graph.specs.Nodes.{NodesView, IsDeep}

-- a history, with its depths and its heads
pub record IsKept (nodes : NodesView) (heads : List Name) : Type 0 where
  pub is_history : IsHistory nodes.history
  pub deep : IsDeep nodes
  pub are_heads : IsHeads nodes.history heads
