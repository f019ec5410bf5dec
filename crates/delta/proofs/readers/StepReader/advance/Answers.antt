use Rattle.std.proofs.Common.{◌≤◌, ◌+◌, subst, arith}
use Rattle.delta.specs.Steps.{IsCanonical}
use Rattle.delta.specs.Reading.{step_size}
use Rattle.delta.proofs.ReadingLemmas.{advance_cells, advance_size}
use Rattle.delta.proofs.readers.StepReader.advance.Goals as goal

pub overflow_add-used : goal.overflow_add-used
overflow_add-used c =
    let r = c.self.inside in
    let le : r.used + c.args.count ≤ step_size c.in-Some.first.now = advance_size r.steps.now c.args.self.now c.in-Some.first.now r.used c.args.count c.in-Some.ensures.value
    c.self.view_is (subst IsCanonical c.self.view_is c.self.invariant) c.requires in
    omega (arith, le, c.size-size.ensures, c.size-size.type_inv)

pub returns-else-used-size-clause-cells : goal.returns-else-used-size-clause-cells
returns-else-used-size-clause-cells c =
    let r = c.self.inside in
    advance_cells r.steps.now c.args.self.now c.in-Some.first.now r.used c.args.count c.in-Some.ensures.value c.self.view_is c.requires
