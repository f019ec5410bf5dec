use Rattle.std.proofs.Common.{length, take, drop, ap, ap₂, ◌∙◌, arith}
use Rattle.std.specs.Prelude.{nat_eq}
use Rattle.std.specs.Cmp.Lexicographic.{pointwise}
use Rattle.std.proofs.lemmas.List.{length-drop}
use Rattle.tt_base.proofs.TextLemmas.{pointwise-runs, false-from_first, rest-from_first}
use Rattle.tt_base.proofs.texts.TextPartialEq.eq.Goals as goal

pub returns-then-ne : goal.returns-then-ne
returns-then-ne c =
    let l = c.loop-these in
    let run = c.run-run.result.now in
    let other = c.run-other_run.result.now in
    let count = c.min-count.result in
    false-from_first (pointwise nat_eq (take count run) (take count other)) (pointwise nat_eq (drop count l.these) (drop count l.those)) (pointwise nat_eq l.these l.those)
    (pointwise-runs nat_eq l.these l.those run other count c.run-run.ensures.front c.run-other_run.ensures.front (omega (arith, c.min-count.ensures)) (omega (arith, c.min-count.ensures)))
    c.if-ne.ensures
    ∙ l.invariant.rests

pub loop-these-preserved : goal.loop-these-preserved
loop-these-preserved c =
    let l = c.loop-these in
    let run = c.run-run.result.now in
    let other = c.run-other_run.result.now in
    let count = c.min-count.result in
    record {
      rests =
          ap₂ (pointwise nat_eq) c.skip.ensures c.skip-in-loop-these.ensures
          ∙ rest-from_first (pointwise nat_eq (take count run) (take count other)) (pointwise nat_eq (drop count l.these) (drop count l.those)) (pointwise nat_eq l.these l.those)
          (pointwise-runs nat_eq l.these l.those run other count c.run-run.ensures.front c.run-other_run.ensures.front (omega (arith, c.min-count.ensures)) (omega (arith, c.min-count.ensures)))
          c.if-ne.ensures
          ∙ l.invariant.rests;
      length = omega (arith, ap length c.skip.ensures, ap length c.skip-in-loop-these.ensures, length-drop count l.these, length-drop count l.those, l.invariant.length);
    }
