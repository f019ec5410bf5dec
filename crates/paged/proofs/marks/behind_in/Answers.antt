use Rattle.std.proofs.Common.{◌<◌, true, false, sym, ◌∙◌, arith}
use Rattle.paged.proofs.MarkLemmas.{behind-drop}
use Rattle.paged.proofs.marks.behind_in.Goals as goal
use Rattle.paged.proofs.marks.behind_in.Goals.{then-is_marked, else-is_marked}

pub loop-i-preserved : goal.loop-i-preserved
loop-i-preserved g c =
    let is_marked = g.T.PageItem.marked in
    let l = c.loop-i in
    let some : 0 < l.left = omega arith in
    elim c.if-is_marked.branch [
      | then-is_marked w ↦
          behind-drop is_marked c.args.items.now l.i l.left c.if-is_marked.left c.index-items-i.result true _ c.loop-i-test.true c.index-items-i.is some
          (sym c.is_marked.ensures ∙ w.if-is_marked.true) w.left-is l.invariant
      | else-is_marked w ↦
          behind-drop is_marked c.args.items.now l.i l.left c.if-is_marked.left c.index-items-i.result false _ c.loop-i-test.true c.index-items-i.is some
          (sym c.is_marked.ensures ∙ w.if-is_marked.false) w.left-is l.invariant
    ]
