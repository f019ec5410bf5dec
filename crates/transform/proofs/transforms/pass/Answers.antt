use Rattle.std.proofs.Common.{◌+◌, drop, sym, ap, ◌∙◌, arith}
use Rattle.delta.specs.Cells.{Cells, base_length, joined, nothing}
use Rattle.std.proofs.lemmas.List.{drop_all}
use Rattle.delta.specs.Steps.{cells_of}
use Rattle.delta.proofs.ApplyLemmas.{cells_of-drop, base_length-step}
use Rattle.transform.specs.Carried.{carried}
use Rattle.transform.proofs.WalkLemmas.{whole_fits, step_room-le, end_room-le}
use Rattle.transform.proofs.transforms.pass.Goals as goal

pub pass_step-requires-clause-long : goal.pass_step-requires-clause-long
pass_step-requires-clause-long c =
    omega (arith, c.loop-step.invariant.base, base_length-step c.as_slice-step-items.result.now c.loop-step.step-index c.step-item.result c.loop-step-test.true c.step-item.is)

pub pass_step-requires-clause-fits : goal.pass_step-requires-clause-fits
pass_step-requires-clause-fits c =
    let steps = c.as_slice-step-items.result.now in
    let i = c.loop-step.step-index in
    let q : Cells = cells_of (drop i steps) in
    let p : Cells = cells_of c.loop-step.ahead in
    let fits = whole_fits c.args.side c.loop-step.built q p c.args.daemon.now c.args.editor.now c.loop-step.invariant.gives (sym c.loop-step.invariant.base) c.requires
    c.steps.ensures.result_fits c.new-ahead.ensures.result_fits in
    omega (arith, fits, step_room-le c.args.side c.step-item.result (cells_of (drop (i + 1) steps)) q p (cells_of-drop steps i c.step-item.result c.loop-step-test.true c.step-item.is))

pub loop-step-preserved : goal.loop-step-preserved
loop-step-preserved c =
    let steps = c.as_slice-step-items.result.now in
    let i = c.loop-step.step-index in
    let one = c.in_ok-pass_step.ensures in record {
      gives =
          one.gives (cells_of (drop (i + 1) steps))
          ∙ ap (λ q. joined c.loop-step.built (carried c.args.side q (cells_of c.loop-step.ahead))) (sym (cells_of-drop steps i c.step-item.result c.loop-step-test.true c.step-item.is))
          ∙ c.loop-step.invariant.gives;
      base =
          omega (arith, one.base, c.loop-step.invariant.base, base_length-step steps i c.step-item.result c.loop-step-test.true c.step-item.is);
    }

pub pass_end-requires-clause-fits : goal.pass_end-requires-clause-fits
pass_end-requires-clause-fits c =
    let steps = c.as_slice-step-items.result.now in
    let i = c.loop-step.step-index in
    let p : Cells = cells_of c.loop-step.ahead in
    let none = ap cells_of (drop_all i steps c.loop-step-test.false) in
    let gives = ap (λ q. joined c.loop-step.built (carried c.args.side q p)) (sym none) ∙ c.loop-step.invariant.gives in
    let fits = whole_fits c.args.side c.loop-step.built nothing p c.args.daemon.now c.args.editor.now gives (sym (c.loop-step.invariant.base ∙ ap base_length none)) c.requires
    c.steps.ensures.result_fits c.new-ahead.ensures.result_fits in
    omega (arith, fits, end_room-le c.args.side p)
