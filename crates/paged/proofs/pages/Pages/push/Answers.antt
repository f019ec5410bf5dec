use Rattle.std.proofs.Common.{◌-◌, ◌<◌, ◌∷◌, ◌++◌, [], length, get_or, ap, ◌∙◌, arith, rules}
use Rattle.std.proofs.lemmas.List.{get_or_default}
use Rattle.paged.specs.Pages.{flat}
use Rattle.paged.proofs.SpliceLemmas.{pushed-paged, replaced-last}
use Rattle.paged.proofs.pages.Pages.push.Goals as goal

pub invariant_of-self-then-len-most : goal.invariant_of-self-then-len-most
invariant_of-self-then-len-most g c =
    let p = c.self.inside in
    let last = c.len-last.result - 1 in
    let within : last < length p.pages.items = omega (arith, c.self.invariant.paging.many, c.len-last.ensures) in
    pushed-paged g.T.PageItem.HALF g.T.PageItem.marked p.pages.items _ p.lengths.items p.marks.items _ _ last p.count c.in_ok-count.count (get_or p.pages.items last []) c.args.item
    c.self.invariant within (omega (arith, c.len-last.ensures, within)) (get_or_default p.pages.items last [] _ within) c.in_ok-push_in_page.ensures.ok c.in_ok-push_in_page.ensures.columns
    (search rules) (search rules)

pub returns-then-len-most-clause-ok : goal.returns-then-len-most-clause-ok
returns-then-len-most-clause-ok g c =
    let p = c.self.inside in
    let last = c.len-last.result - 1 in
    let within : last < length p.pages.items = omega (arith, c.self.invariant.paging.many, c.len-last.ensures) in
    replaced-last g.T.PageItem.HALF last p.pages.items _ (get_or p.pages.items last []) c.args.item within (omega (arith, c.len-last.ensures, within))
    (get_or_default p.pages.items last [] _ within) c.in_ok-push_in_page.ensures.ok
    ∙ ap (λ l. flat l ++ c.args.item ∷ []) c.self.view_is
