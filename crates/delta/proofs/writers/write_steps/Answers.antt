use Rattle.std.proofs.Common.{take, sym, ap, ◌∙◌, arith}
use Rattle.std.proofs.lemmas.List.{take_all}
use Rattle.delta.specs.Cells.{base_length, nothing, normal}
use Rattle.delta.specs.Steps.{after_step, cells_of}
use Rattle.delta.proofs.StepsLemmas.{IsNormal-cells_of}
use Rattle.delta.proofs.NormalLemmas.{normal_is_fixed}
use Rattle.delta.proofs.AlikeLemmas.{IsAlike-same, IsAlike-trans, IsAlike-joined_left, normal-alike}
use Rattle.delta.proofs.WriterLemmas.{base_length-take_more, cells_of-take_more}
use Rattle.delta.proofs.writers.write_steps.Goals as goal

pub write-requires : goal.write-requires
write-requires c =
    let steps = c.args.steps.now in
    omega (arith, base_length-take_more steps c.loop-step.step-index c.step-item.result c.loop-step-test.true c.step-item.is, c.loop-step.invariant.base, c.requires, c.ranges.base)

pub loop-step-preserved : goal.loop-step-preserved
loop-step-preserved c =
    let steps = c.args.steps.now in
    let i = c.loop-step.step-index in
    IsAlike-trans _ _ _ c.in_ok-writer.ensures
    (IsAlike-trans _ _ _
    (IsAlike-joined_left (after_step c.step-item.result nothing) c.loop-step.writer (cells_of (take i steps)) c.loop-step.invariant)
    (IsAlike-same _ _ (sym (cells_of-take_more steps i c.step-item.result c.loop-step-test.true c.step-item.is))))

pub close-requires : goal.close-requires
close-requires c =
    c.requires
    ∙ ap (λ ss. base_length (cells_of ss)) (sym (take_all c.loop-step.step-index c.args.steps.now c.loop-step-test.false))
    ∙ sym c.loop-step.invariant.base

pub returns-clause-cells : goal.returns-clause-cells
returns-clause-cells c =
    let written = c.in_ok-written.written in
    sym (normal_is_fixed (cells_of written) (IsNormal-cells_of written c.in_ok-written.ensures.written.canonical))
    ∙ ap normal c.in_ok-written.ensures.cells
    ∙ normal-alike _ _ c.loop-step.invariant
    ∙ ap (λ ss. normal (cells_of ss)) (take_all c.loop-step.step-index c.args.steps.now c.loop-step-test.false)
