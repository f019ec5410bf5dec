use Rattle.std.proofs.Common.{◌≡◌, ◌++◌, drop}
use Rattle.delta.specs.Cells.{base_length}
use Rattle.transform.specs.Carried.{IsChain, past_list, list_past}
use Rattle.transform.proofs.lists.pass_list.Given as goal

-- the rest of the list carried past the delta as it is by now
abbrev pub invariant-loop-q : goal.invariant-loop-q
invariant-loop-q l = record {
  chain : IsChain (base_length l.delta) (drop l.q-index l.list);
  delta : past_list l.delta (drop l.q-index l.list) ≡ past_list l.fn.p l.list;
  list : l.passed.items ++ list_past l.delta (drop l.q-index l.list) ≡ list_past l.fn.p l.list;
}
