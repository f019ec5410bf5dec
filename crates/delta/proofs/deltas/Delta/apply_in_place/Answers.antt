use Rattle.std.proofs.Common.{length, take, drop, ap, arith}
use Rattle.std.proofs.lemmas.List.{length-drop}
use Rattle.delta.specs.Steps.{step_base}
use Rattle.delta.proofs.ApplyLemmas.{applied-step, base_length-step}
use Rattle.delta.proofs.deltas.Delta.apply_in_place.Goals as goal

pub change_step-requires : goal.change_step-requires
change_step-requires c =
    let l = c.loop-step in
    omega (
      arith,
      l.invariant.base,
      l.invariant.within,
      length-drop l.place l.text,
      base_length-step c.as_slice-step-items.result.now l.step-index c.step-item.result c.loop-step-test.true c.step-item.is,
    )

pub loop-step-preserved : goal.loop-step-preserved
loop-step-preserved c =
    let l = c.loop-step in
    let steps = c.as_slice-step-items.result.now in
    let step = c.step-item.result in
    let next = c.in_ok-place.place in
    let after = c.change_step.new.text in
    let done = c.in_ok-place.ensures in record {
      whole =
          applied-step steps l.step-index step (take l.place l.text) (take next after) (drop l.place l.text) (drop next after) _ c.loop-step-test.true c.step-item.is (omega (arith, l.invariant.base))
          done.said done.left l.invariant.whole;
      base =
          omega (arith, l.invariant.base, base_length-step steps l.step-index step c.loop-step-test.true c.step-item.is, ap length done.left, length-drop (step_base step) (drop l.place l.text));
      within = done.within;
    }
