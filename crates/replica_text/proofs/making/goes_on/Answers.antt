use Rattle.std.proofs.Common.{arith}
use Rattle.replica_text.proofs.MadeLemmas.{seen_from_first, goes_on_none}
use Rattle.replica_text.proofs.making.goes_on.Goals as goal

pub returns-in-Some : goal.returns-in-Some
returns-in-Some c =
    seen_from_first c.args.first.now c.args.id.now c.args.count c.in-Some.index c.equals.result (omega (arith, c.in-Some.ensures)) c.equals.ensures.0 c.equals.ensures.1

pub returns-in-None : goal.returns-in-None
returns-in-None c = goes_on_none c.args.first.now c.args.id.now c.args.count (omega (arith, c.in-None.ensures))
