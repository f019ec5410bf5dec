use Rattle.std.proofs.Common.{◌+◌, ap, ◌∙◌, arith}
use Rattle.std.proofs.lemmas.List.{take_all}
use Rattle.delta.specs.Cells.{result_length}
use Rattle.delta.specs.Steps.{cells_of}
use Rattle.delta.proofs.WriterLemmas.{result_length-take_more, result_length-take_le}
use Rattle.delta.proofs.deltas.Delta.result_length.Goals as goal

pub overflow_add-length : goal.overflow_add-length
overflow_add-length c =
    let steps = c.as_slice-step-items.result.now in
    let i = c.loop-step.step-index in
    omega (
      arith,
      c.loop-step.invariant,
      c.result_size-length.ensures,
      result_length-take_more steps i c.step-item.result c.loop-step-test.true c.step-item.is,
      result_length-take_le steps (i + 1),
      ap (λ ss. result_length (cells_of ss)) c.as_slice-step-items.ensures,
      c.self.invariant.result_fits,
    )

pub loop-step-preserved : goal.loop-step-preserved
loop-step-preserved c =
    omega (
      arith,
      c.loop-step.invariant,
      c.result_size-length.ensures,
      result_length-take_more c.as_slice-step-items.result.now c.loop-step.step-index c.step-item.result c.loop-step-test.true c.step-item.is,
    )

pub returns : goal.returns
returns c =
    c.loop-step.invariant
    ∙ ap (λ ss. result_length (cells_of ss)) (take_all c.loop-step.step-index c.as_slice-step-items.result.now c.loop-step-test.false)
    ∙ ap (λ ss. result_length (cells_of ss)) c.as_slice-step-items.ensures
    ∙ ap result_length c.self.view_is
