use Rattle.std.proofs.Common.{ℕ, List, ◌++◌, subst}
use Rattle.journal_format.specs.Image.{mark}
use Rattle.journal_format.specs.Progress.{IsReadTo}
use Rattle.journal_format.proofs.groups.read_groups.Goals as goal

pub returns-in-Err-clause-fault : goal.returns-in-Err-clause-fault
returns-in-Err-clause-fault c =
    let before = c.loop-behind.progress in
    c.in-Err.ensures.read (mark ++ c.args.bytes.now)
    (subst (λ (rest : List ℕ). IsReadTo (mark ++ c.args.bytes.now) before.records.items before.gates.items before.end rest) c.in-Some.ensures c.loop-behind.invariant.0)
