use Rattle.std.proofs.Common.{refl, rules}
use Rattle.paged.proofs.SpotLemmas.{range-patched}
use Rattle.paged.proofs.patches.patch_around.Goals as goal

pub returns-clause-gives : goal.returns-clause-gives
returns-clause-gives g c =
    let first = c.find-first.result in
    let last = c.find-last.result in
    range-patched c.args.pages.now c.split_at.result.1.now c.args.start c.args.end first.index first.offset last.index last.offset _ c.index-pages-first.result
    c.index-pages_left-last.result c.args.run.now c.in_ok-joined.field-0.items c.split_at.ensures.back c.find-first.ensures.spot c.requires.order c.find-last.ensures.spot
    c.index-pages-first.is c.index-pages_left-last.is refl (search rules)
