use Rattle.std.proofs.Common.{drop, ap, ◌∙◌}
use Rattle.paged.specs.Pages.{flat}
use Rattle.paged.proofs.SpotLemmas.{runs-at-spot}
use Rattle.paged.proofs.pages.Pages.runs.Goals as goal

pub returns : goal.returns
returns g c =
    let spot = c.find-spot.result in
    c.new.ensures
    ∙ ap (λ p. drop spot.offset (flat p)) c.split_at.ensures.back
    ∙ runs-at-spot c.as_slice-pages.result.now c.args.place spot.index spot.offset c.find-spot.ensures.spot
    ∙ ap (λ p. drop c.args.place (flat p)) (c.as_slice-pages.ensures.value ∙ c.self.view_is)
