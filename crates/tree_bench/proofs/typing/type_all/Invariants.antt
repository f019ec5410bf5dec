use Rattle.replica_text.specs.Ids.{is_known}
use Rattle.tree_bench.specs.Typed.{AreTyped}
use Rattle.tree_bench.proofs.typing.type_all.Given as goal

-- so many characters are typed
abbrev pub invariant-loop-typed : goal.invariant-loop-typed
invariant-loop-typed l = AreTyped l.first l.typed (is_known l.text)
