use Rattle.std.proofs.Common.{ap, ◌∙◌, arith, rules}
use Rattle.std.specs.List.{sum, between}
use Rattle.paged.proofs.SpliceLemmas.{sum-between, replaced-paged}
use Rattle.paged.proofs.pages.Pages.put.Goals as goal

pub sum_of-gone-requires : goal.sum_of-gone-requires
sum_of-gone-requires g c =
    let p = c.self.inside in
    let patch = c.args.patch in
    let parts = sum-between p.pages.items p.lengths.items patch.from patch.to c.self.invariant.columns.lengths_are (omega (arith, c.requires.order)) in
    omega (arith, parts, c.self.invariant.count_is, c.self.invariant.fits, ap (λ l. sum (between patch.from patch.to l)) c.deref.ensures.value)

pub overflow_sub-self-inside : goal.overflow_sub-self-inside
overflow_sub-self-inside g c =
    let p = c.self.inside in
    let patch = c.args.patch in
    let parts = sum-between p.pages.items p.lengths.items patch.from patch.to c.self.invariant.columns.lengths_are (omega (arith, c.requires.order)) in
    omega (arith, parts, c.self.invariant.count_is, c.sum_of-gone.ensures, ap (λ l. sum (between patch.from patch.to l)) c.deref.ensures.value)

pub invariant_of-self-2 : goal.invariant_of-self-2
invariant_of-self-2 g c =
    let p = c.self.inside in
    let patch = c.args.patch in
    replaced-paged g.T.PageItem.HALF g.T.PageItem.marked p.pages.items _ p.lengths.items p.marks.items _ _ patch.from patch.to c.sum_of-gone.result p.count c.in_ok-count.count patch.items.items
    c.self.invariant c.in_ok-put_items.ensures.ok c.in_ok-put_items.ensures.columns (omega (arith, c.requires.order)) (search rules) (search rules) (search rules)
    (c.sum_of-gone.ensures ∙ ap (λ l. sum (between patch.from patch.to l)) c.deref.ensures.value) (search rules) (search rules)
