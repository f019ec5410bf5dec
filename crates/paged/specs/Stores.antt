-- The two ways in which a list is kept.
use Rattle.std.specs.Prelude.{ℕ, ◌+◌, ◌≤◌, List, length}
use Rattle.paged.specs.Pages.{flat}
use Rattle.paged.specs.declared.stores.Store.{Store}
use Rattle.paged.specs.declared.stores.Store.TheVariants.{Run, Pages}

-- the items of a list that is kept
abbrev pub items_of : {A : Type 0} → Store A → List A
items_of (Run items) = items
items_of (Pages pages) = flat pages

-- a single run is no longer than a page
abbrev pub IsStored : {A : Type 0} → ℕ → Store A → Type 0
IsStored half (Run items) = length items ≤ half + half
IsStored half (Pages pages) = Unit {0}
