use Rattle.std.proofs.Common.{◌≡◌, true, subst, rules, arith}
use Rattle.replica_text.specs.Made.{IsAbove}
use Rattle.replica_text.proofs.TestLemmas.{inserted_in_result}
use Rattle.replica_text.proofs.texts.tests.made.Goals as goal

pub ops_of-requires-clause-above : goal.ops_of-requires-clause-above
ops_of-requires-clause-above g c =
    let above : c.is_above.result ≡ true = search rules in
    subst (IsAbove c.args.next) c.text.view_is (c.is_above.ensures above)

pub ops_of-requires-clause-fits : goal.ops_of-requires-clause-fits
ops_of-requires-clause-fits g c = omega (arith, c.result_length.ensures, inserted_in_result c.args.delta.now.cells c.args.delta.now.last)

pub returns : goal.returns
returns g c = c.in_ok-ops_of.ensures.may_follow
