use Rattle.std.proofs.Common.{drop}
use Rattle.change_making.proofs.WrittenLemmas.{Removes}
use Rattle.change_making.proofs.writing.push_removals.Given as goal

abbrev pub invariant-loop-object : goal.invariant-loop-object
invariant-loop-object l = Removes l.objects l.fn.ops.items l.ops.items (drop l.object-index l.objects)
