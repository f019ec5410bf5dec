use Rattle.std.proofs.Common.{◌≡◌, ◌+◌, drop}
use Rattle.std.specs.Prelude.{option_map}
use Rattle.paged.specs.Marks.{behind}
use Rattle.paged.proofs.marks.behind_in.Given as goal

-- the place is where that of the marked items that are left lies in the rest
abbrev pub invariant-loop-i : goal.invariant-loop-i
invariant-loop-i g l =
    behind g.T.PageItem.marked l.items l.n ≡ option_map (λ place. l.i + place) (behind g.T.PageItem.marked (drop l.i l.items) l.left)
