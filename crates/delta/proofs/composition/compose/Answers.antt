use Rattle.std.proofs.Common.{◌≡◌, ◌+◌, [], drop, sym, ap, ◌∙◌, arith}
use Rattle.std.proofs.lemmas.List.{drop_all}
use Rattle.delta.specs.Cells.{Cells, base_length}
use Rattle.delta.specs.Steps.{cells_of}
use Rattle.delta.specs.Composing.{composing}
use Rattle.delta.proofs.ApplyLemmas.{cells_of-drop, base_length-step}
use Rattle.delta.proofs.ComposingLemmas.{composed_by}
use Rattle.delta.proofs.composition.compose.Goals as goal

pub compose_step-requires-clause-long : goal.compose_step-requires-clause-long
compose_step-requires-clause-long c =
    omega (arith, c.loop-step.invariant.result, base_length-step c.as_slice-step-items.result.now c.loop-step.step-index c.step-item.result c.loop-step-test.true c.step-item.is)

pub loop-step-preserved : goal.loop-step-preserved
loop-step-preserved c =
    let steps = c.as_slice-step-items.result.now in
    let i = c.loop-step.step-index in
    let one = c.in_ok-compose_step.ensures in record {
      leaves =
          one.leaves (cells_of (drop (i + 1) steps))
          ∙ ap (composing c.loop-step.built (cells_of c.loop-step.ahead)) (sym (cells_of-drop steps i c.step-item.result c.loop-step-test.true c.step-item.is))
          ∙ c.loop-step.invariant.leaves;
      base = one.base ∙ c.loop-step.invariant.base;
      result =
          omega (arith, one.result, c.loop-step.invariant.result, base_length-step steps i c.step-item.result c.loop-step-test.true c.step-item.is);
    }

pub returns : goal.returns
returns c =
    let steps = c.as_slice-step-items.result.now in
    let b = c.loop-step.built in
    let a : Cells = cells_of c.loop-step.ahead in
    let none : drop c.loop-step.step-index steps ≡ [] = drop_all c.loop-step.step-index steps c.loop-step-test.false in
    c.in_ok-delta.ensures
    ∙ composed_by c.args.first.now c.args.second.now b a c.compose_end.new.built
    (ap (λ ss. composing b a (cells_of ss)) (sym none) ∙ c.loop-step.invariant.leaves)
    c.loop-step.invariant.base
    (c.loop-step.invariant.result ∙ ap (λ ss. base_length (cells_of ss)) none)
    c.in_ok-compose_end.ensures
