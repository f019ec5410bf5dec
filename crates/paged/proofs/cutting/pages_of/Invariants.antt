use Rattle.std.proofs.Common.{◌≡◌, ◌+◌, ◌≤◌, ◌++◌, length}
use Rattle.std.specs.List.{All}
use Rattle.paged.specs.Pages.{flat, HasLength}
use Rattle.paged.proofs.cutting.pages_of.Given as goal

-- the pages so far, and what is left for a page more
abbrev pub invariant-loop-rest : goal.invariant-loop-rest
invariant-loop-rest g l = record {
  whole : flat l.pages.items ++ l.rest ≡ l.items;
  each : All (HasLength g.T.PageItem.HALF (g.T.PageItem.HALF + g.T.PageItem.HALF)) l.pages.items;
  long : g.T.PageItem.HALF ≤ length l.rest;
}

abbrev pub decreases-loop-rest : goal.decreases-loop-rest
decreases-loop-rest g l = length l.rest
