use Rattle.std.proofs.Common.{ℕ, ap, ◌∙◌, ◌++◌, replicate}
use Rattle.change_graph.specs.Runs.{thing_in, told}
use Rattle.change_graph.proofs.RunLemmas.{told_step, told_full, told_all}
use Rattle.change_graph.proofs.runs.scan_run.Goals as goal

pub loop-op-preserved : goal.loop-op-preserved
loop-op-preserved c =
    told_step c.args.object c.args.from c.loop-op.scan c.passed-scan.result c.args.ops.now c.loop-op.op-index c.op-item.result c.of.result.count
    (thing_in c.of.result.object) (thing_in c.seen_from.result.object) c.loop-op-test.true c.op-item.is c.of.ensures c.seen_from.ensures.thing
    (λ rest.
    c.passed-scan.ensures rest
    ∙ ap (λ (n : ℕ). told c.args.object c.loop-op.scan (replicate n (thing_in c.seen_from.result.object) ++ rest)) c.seen_from.ensures.count)
    ∙ c.loop-op.invariant

pub returns-then-scan-eq0 : goal.returns-then-scan-eq0
returns-then-scan-eq0 c = told_full c.args.object c.loop-op.scan _ c.if-scan-eq0.true ∙ c.loop-op.invariant

pub returns : goal.returns
returns c = told_all c.args.object c.args.from c.loop-op.scan c.args.ops.now c.loop-op.op-index c.loop-op-test.false ∙ c.loop-op.invariant
