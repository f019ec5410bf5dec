use Rattle.std.proofs.Common.{◌≡◌, ◌+◌, ◌∷◌, ◌++◌, [], length, get_or, refl, ap, ◌∙◌, arith, length-append}
use Rattle.std.proofs.lemmas.List.{get_or_read}
use Rattle.paged.proofs.SpliceLemmas.{set-splice, columns-push, replaced-page}
use Rattle.paged.proofs.replacing.push_in_page.Goals as goal

pub returns-clause-columns : goal.returns-clause-columns
returns-clause-columns g c =
    columns-push g.T.PageItem.marked c.args.pages.now.items c.args.lengths.now.items c.args.marks.now.items c.args.index c.index_mut-2.result.now c.index_mut-3.result.now
    c.mark_of.result c.index_mut.result.now c.push.new.self c.args.item c.requires.columns c.requires.within c.index_mut.ensures.value c.in_ok-push.ensures.ok
    c.index_mut-2.ensures.value c.index_mut-3.ensures.value c.mark_of.ensures.mark

pub returns-clause-ok : goal.returns-clause-ok
returns-clause-ok g c =
    let pages = c.args.pages.now.items in
    let index = c.args.index in
    let page = get_or pages index [] in
    let long : length (page ++ c.args.item ∷ []) ≡ length page + 1 = length-append page (c.args.item ∷ []) in
    replaced-page g.T.PageItem.HALF index (index + 1) pages _ c.push.new.self (page ++ c.args.item ∷ []) refl
    (c.in_ok-push.ensures.ok ∙ ap (λ p. p ++ c.args.item ∷ []) (get_or_read pages index c.index_mut.result.now c.requires.within c.index_mut.ensures.value []))
    (omega (arith, long, c.requires.half)) (omega (arith, long, c.requires.room)) (set-splice pages index c.push.new.self c.requires.within)
