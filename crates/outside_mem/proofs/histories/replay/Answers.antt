use Rattle.std.proofs.Common.{◌≡◌, ◌<◌, length, get_or, true, false, ap, sym, ◌∙◌, arith}
use Rattle.outside_mem.specs.declared.histories.Entry.{Entry}
use Rattle.outside_mem.proofs.ReplaySteps.{replayed_behind, replayed_on_top}
use Rattle.outside_mem.proofs.histories.replay.Goals as goal
use Rattle.outside_mem.proofs.histories.replay.Goals.{then-entry+in_ok-make_all, else-entry}

pub loop-place-preserved : goal.loop-place-preserved
loop-place-preserved c =
    let began = c.args.began.now in
    let entries = c.args.entries.now in
    let i = c.loop-place.place in
    let entry = c.index-entries-place.result in
    let inside : i < length entries = omega arith in
    let mark : (get_or entries i entry).behind_sync ≡ entry.behind_sync = ap (λ (e : Entry). e.behind_sync) (sym c.index-entries-place.is) in
    elim c.if-entry.branch [
      | then-entry+in_ok-make_all w ↦ rw (w.content-is, w.begin-is)
          (replayed_behind began entries i c.loop-place.begin c.loop-place.content.items w.make_all.new.content.items entry inside c.loop-place.invariant (mark ∙ w.if-entry.true) w.in_ok-make_all.ensures)
      | else-entry w ↦ rw (w.content-is, w.begin-is)
          (replayed_on_top began entries i c.loop-place.begin c.loop-place.content.items entry inside c.loop-place.invariant (mark ∙ w.if-entry.false))
    ]
