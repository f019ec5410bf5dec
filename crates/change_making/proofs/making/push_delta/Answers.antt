use Rattle.std.proofs.Common.{◌≤◌, subst, sym, ◌∙◌, arith}
use Rattle.std.specs.List.{AllByRecursion}
use Rattle.delta.specs.Cells.{result_length}
use Rattle.replica_text.specs.Made.{inserted_length}
use Rattle.change_making.specs.Writing.{CanBeWritten}
use Rattle.change_making.proofs.MadeLemmas.{inserted_few}
use Rattle.change_making.proofs.WrittenLemmas.{made_can_be_written}
use Rattle.change_making.proofs.making.push_delta.Goals as goal

pub ops_of-requires-clause-fits : goal.ops_of-requires-clause-fits
ops_of-requires-clause-fits g c =
    let few : inserted_length c.args.d.now ≤ result_length c.args.d.now = inserted_few c.args.d.now.cells c.args.d.now.last in
    let long = c.result_length-length.ensures in
    let fits = c.result_length-length.type_inv in
    let first = c.requires.first in omega (arith, few, long, fits, first)

pub push_written-requires-clause-some : goal.push_written-requires-clause-some
push_written-requires-clause-some g c =
    subst (AllByRecursion CanBeWritten) (sym (c.as_slice.ensures ∙ c.in_ok-text_ops.ensures.ops))
    (made_can_be_written c.args.text.now c.args.d.now c.args.above)
