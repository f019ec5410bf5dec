-- Where a place of a list lies in its pages.
use Rattle.std.specs.Prelude.{◌≡◌, ℕ, ◌+◌, ◌≤◌, List, ◌∷◌, ◌++◌, length}
use Rattle.paged.specs.Pages.{flat}

-- the place with so many items of the whole before it is that with so many of one page before it
pub record IsSpot {A : Type 0} (pages : List (List A)) (place index offset : ℕ) : Type 0 where
  pub before : List (List A)
  pub page : List A
  pub behind : List (List A)
  pub cut : pages ≡ before ++ (page ∷ behind)
  pub index_is : length before ≡ index
  pub place_is : length (flat before) + offset ≡ place
  pub inside : offset ≤ length page
