use Rattle.std.proofs.Common.{◌≡◌, ◌≤◌, length, drop}
use Rattle.paged.specs.Pages.{flat}
use Rattle.paged.specs.Reading.{IsReading}
use Rattle.paged.proofs.runs.Runs.skip.Given as goal

-- what is left to pass over of the items that are left
abbrev pub invariant-loop-page : goal.invariant-loop-page
invariant-loop-page g l = record {
  rest : drop l.left (drop l.used (flat l.pages)) ≡ drop l.count (drop l.initial.used (flat l.initial.pages));
  reading : IsReading l.pages l.used;
  within : l.left ≤ length (drop l.used (flat l.pages));
}

abbrev pub decreases-loop-page : goal.decreases-loop-page
decreases-loop-page g l = length l.pages
