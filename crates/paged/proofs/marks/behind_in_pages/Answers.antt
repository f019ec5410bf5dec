use Rattle.std.proofs.Common.{◌≡◌, ◌+◌, ◌<◌, length, take, ap, sym, ◌∙◌, arith}
use Rattle.std.specs.Prelude.{option_map}
use Rattle.std.specs.List.{sum, count_by}
use Rattle.std.proofs.lemmas.List.{length-map}
use Rattle.std.proofs.lemmas.List.Sums.{sum_by-take-le}
use Rattle.paged.proofs.FlatLemmas.{sum-lengths, page-within}
use Rattle.paged.proofs.MarkLemmas.{behind-no-page, behind-found}
use Rattle.paged.proofs.marks.behind_in_pages.Goals as goal

pub returns-then-spot-marks : goal.returns-then-spot-marks
returns-then-spot-marks g c =
    let spot = c.reach-spot.result in
    let told = c.reach-spot.ensures in
    sym (behind-no-page g.T.PageItem.marked c.args.pages.now c.args.lengths.now c.args.marks.now c.requires.columns spot.index spot.offset c.args.n
    c.if-spot-marks.true told.reached told.behind (omega arith))

pub sum_of-start-requires : goal.sum_of-start-requires
sum_of-start-requires g c =
    let lengths = c.args.lengths.now in
    let pages = c.args.pages.now in
    omega (arith, c.requires.fits, ap sum c.split_at.ensures.front, sum_by-take-le (λ n. n) lengths c.reach-spot.result.index, ap sum c.requires.columns.lengths_are, sum-lengths pages)

pub returns-in_err-place : goal.returns-in_err-place
returns-in_err-place g c =
    let spot = c.reach-spot.result in
    let told = c.reach-spot.ensures in
    c.from_residual.ensures
    ∙ ap (option_map (λ place. c.sum_of-start.result + place)) (sym c.in_err-place.was)
    ∙ behind-found g.T.PageItem.marked c.args.pages.now c.args.lengths.now c.args.marks.now c.requires.columns c.split_at.result.0.now spot.index spot.offset c.args.n
    c.sum_of-start.result c.index-pages-spot.result c.as_slice.result.now c.behind_in.result told.index c.if-spot-marks.false c.index-pages-spot.is told.reached told.inside
    told.behind (omega arith) c.split_at.ensures.front c.sum_of-start.ensures c.as_slice.ensures c.behind_in.ensures.place

pub overflow_add-result : goal.overflow_add-result
overflow_add-result g c =
    let spot = c.reach-spot.result in
    let pages = c.args.pages.now in
    let lengths = c.args.lengths.now in
    let page = c.index-pages-spot.result in
    let count : length c.args.marks.now ≡ length pages = ap length c.requires.columns.marks_are ∙ length-map pages (count_by g.T.PageItem.marked) in
    let within : spot.index < length pages = omega (arith, count, c.if-spot-marks.false, c.reach-spot.ensures.index) in
    let start : c.sum_of-start.result ≡ sum (take spot.index lengths) = c.sum_of-start.ensures ∙ ap sum c.split_at.ensures.front in
    omega (
      arith,
      c.requires.fits,
      start,
      ap length c.as_slice.ensures,
      c.in_ok-place.ensures.within,
      page-within pages lengths spot.index page c.requires.columns.lengths_are within c.index-pages-spot.is,
    )

pub returns : goal.returns
returns g c =
    let spot = c.reach-spot.result in
    let told = c.reach-spot.ensures in
    ap (option_map (λ place. c.sum_of-start.result + place)) (sym c.in_ok-place.was)
    ∙ behind-found g.T.PageItem.marked c.args.pages.now c.args.lengths.now c.args.marks.now c.requires.columns c.split_at.result.0.now spot.index spot.offset c.args.n
    c.sum_of-start.result c.index-pages-spot.result c.as_slice.result.now c.behind_in.result told.index c.if-spot-marks.false c.index-pages-spot.is told.reached told.inside
    told.behind (omega arith) c.split_at.ensures.front c.sum_of-start.ensures c.as_slice.ensures c.behind_in.ensures.place
