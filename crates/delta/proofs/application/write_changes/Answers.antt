use Rattle.std.proofs.Common.{◌≡◌, ◌++◌, [], length, drop, sym, ap, ◌∙◌, arith}
use Rattle.std.proofs.lemmas.List.{drop_all, append-nil, length-drop}
use Rattle.delta.specs.Cells.{applied}
use Rattle.delta.specs.Steps.{cells_of, step_base}
use Rattle.delta.proofs.ApplyLemmas.{applied-step, base_length-step}
use Rattle.delta.proofs.application.write_changes.Goals as goal

pub write_step-requires : goal.write_step-requires
write_step-requires c =
    omega (arith, c.loop-step.invariant.within, base_length-step c.args.steps.now c.loop-step.step-index c.step-item.result c.loop-step-test.true c.step-item.is)

pub loop-step-preserved : goal.loop-step-preserved
loop-step-preserved c =
    let steps = c.args.steps.now in
    let i = c.loop-step.step-index in
    let done = c.in_ok-write_step.ensures in record {
      whole =
          applied-step steps i c.step-item.result c.loop-step.after.items c.write_step.new.after.items c.loop-step.left c.write_step.new.left _ c.loop-step-test.true
          c.step-item.is c.loop-step.invariant.within done.written done.left c.loop-step.invariant.whole;
      within =
          omega (
            arith,
            c.loop-step.invariant.within,
            base_length-step steps i c.step-item.result c.loop-step-test.true c.step-item.is,
            ap length done.left,
            length-drop (step_base c.step-item.result) c.loop-step.left,
          );
    }

pub returns : goal.returns
returns c =
    let steps = c.args.steps.now in
    let none : drop c.loop-step.step-index steps ≡ [] = drop_all c.loop-step.step-index steps c.loop-step-test.false in
    sym (append-nil c.loop-step.after.items)
    ∙ ap (λ ss. c.loop-step.after.items ++ applied (cells_of ss) c.loop-step.left) (sym none)
    ∙ c.loop-step.invariant.whole
