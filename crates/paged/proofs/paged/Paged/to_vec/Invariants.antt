use Rattle.std.proofs.Common.{◌≡◌, take}
use Rattle.paged.specs.Pages.{flat}
use Rattle.paged.proofs.paged.Paged.to_vec.Given as goal

abbrev pub invariant-loop-page : goal.invariant-loop-page
invariant-loop-page g l = l.items.items ≡ flat (take l.page-index l.page-items)
