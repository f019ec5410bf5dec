use Rattle.std.proofs.Common.{◌≡◌, take}
use Rattle.paged.proofs.pages.Pages.copied.Given as goal

abbrev pub invariant-loop-page : goal.invariant-loop-page
invariant-loop-page g l = l.pages.items ≡ take l.page-index l.page-items
