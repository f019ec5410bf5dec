use Rattle.std.proofs.Common.{◌≡◌, ◌+◌, take, ap, arith}
use Rattle.std.specs.List.{sum, count_by}
use Rattle.std.proofs.lemmas.List.{length-take-le}
use Rattle.std.proofs.lemmas.List.Sums.{sum_by-take-le, count_by-le-length}
use Rattle.paged.specs.Pages.{flat}
use Rattle.paged.proofs.FlatLemmas.{sum-marks}
use Rattle.paged.proofs.MarkLemmas.{count-found}
use Rattle.paged.proofs.marks.marked_before.Goals as goal

pub sum_of-requires : goal.sum_of-requires
sum_of-requires g c =
    let is_marked = g.T.PageItem.marked in
    let pages = c.args.pages.now in
    let marks = c.args.marks.now in
    omega (
      arith,
      c.requires.fits,
      ap sum c.split_at.ensures.front,
      sum_by-take-le (λ n. n) marks c.find-spot.result.index,
      ap sum c.requires.columns.marks_are,
      sum-marks is_marked pages,
      count_by-le-length is_marked (flat pages),
    )

pub returns : goal.returns
returns g c =
    let spot = c.find-spot.result in
    count-found g.T.PageItem.marked c.args.pages.now c.args.lengths.now c.args.marks.now c.requires.columns c.split_at.result.0.now c.args.place spot.index spot.offset
    c.sum_of.result c.marked_in.result c.index-pages-spot.result c.as_slice.result.now c.split_at-2.result.0.now c.find-spot.ensures.spot c.index-pages-spot.is
    c.split_at.ensures.front c.sum_of.ensures c.as_slice.ensures c.split_at-2.ensures.front c.marked_in.ensures

pub overflow_add-result : goal.overflow_add-result
overflow_add-result g c =
    let is_marked = g.T.PageItem.marked in
    let spot = c.find-spot.result in
    let before = take c.args.place (flat c.args.pages.now) in
    let same : c.sum_of.result + c.marked_in.result ≡ count_by is_marked before =
    count-found is_marked c.args.pages.now c.args.lengths.now c.args.marks.now c.requires.columns c.split_at.result.0.now c.args.place spot.index spot.offset
    c.sum_of.result c.marked_in.result c.index-pages-spot.result c.as_slice.result.now c.split_at-2.result.0.now c.find-spot.ensures.spot c.index-pages-spot.is
    c.split_at.ensures.front c.sum_of.ensures c.as_slice.ensures c.split_at-2.ensures.front c.marked_in.ensures in
    omega (arith, same, count_by-le-length is_marked before, length-take-le c.args.place (flat c.args.pages.now) c.requires.within, c.ranges.place.fits)
