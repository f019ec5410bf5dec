use Rattle.std.proofs.Common.{get_or, ap, sym, ◌∙◌, arith}
use Rattle.std.specs.Prelude.{slice_get}
use Rattle.paged.specs.Pages.{flat}
use Rattle.paged.proofs.SpotLemmas.{item-at-spot}
use Rattle.paged.proofs.pages.Pages.at.Goals as goal

pub returns : goal.returns
returns g c =
    let spot = c.find-spot.result in
    let pages = c.as_slice.result.now in
    let page = c.index.result.now in
    ap (λ p. slice_get (flat p) c.args.place) (sym c.self.view_is ∙ sym c.as_slice.ensures.value)
    ∙ item-at-spot pages c.args.place spot.index spot.offset page c.at.result.now c.find-spot.ensures.spot (omega (arith, c.find-spot.ensures.behind))
    (c.index.ensures ∙ ap (λ p. get_or p spot.index page) (sym c.as_slice.ensures.value)) c.at.ensures
