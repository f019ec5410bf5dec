use Rattle.std.proofs.Common.{◌∙◌, ◌-◌, ap}
use Rattle.paged.proofs.ReadingLemmas.{passes-page}
use Rattle.paged.proofs.runs.Runs.skip.Goals as goal

pub loop-page-preserved : goal.loop-page-preserved
loop-page-preserved g c =
    let l = c.loop-page in
    let passed = passes-page l.pages.now c.split_at.result.1.now l.used l.left _ c.in-Some.page.now l.invariant.reading c.in-Some.ensures.value c.split_at.ensures.back
    (ap (λ n. n - l.used) c.len.ensures) c.if-left-here.false l.invariant.within in
    record { rest = passed.items ∙ l.invariant.rest; reading = passed.reading; within = passed.within }
