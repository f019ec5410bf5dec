-- A list that is kept in pages, and what stands beside them.
use Rattle.std.specs.Prelude.{◌≡◌, ℕ, ◌+◌, ◌^◌, ◌<◌, ◌≤◌, Bool, List, ◌++◌, length, map, take, drop}
use Rattle.std.specs.List.{flat_map, count_by, All}

-- the items of the pages, one page after the other
abbrev pub flat : {A : Type 0} → List (List A) → List A
flat pages = flat_map (λ page. page) pages

-- the length of a page lies between two numbers
abbrev pub HasLength : {A : Type 0} → ℕ → ℕ → List A → Type 0
HasLength least most page = (least ≤ length page) × (length page ≤ most)

-- no page is empty or too long, and where there are more than one each is half full at least
pub record IsShaped {A : Type 0} (half : ℕ) (pages : List (List A)) : Type 0 where
  pub each : All (HasLength 1 (half + half)) pages
  pub more : 2 ≤ length pages → All (HasLength half (half + half)) pages

-- pages of which there are more than one
pub record IsPaging {A : Type 0} (half : ℕ) (pages : List (List A)) : Type 0 where
  pub many : 2 ≤ length pages
  pub each : All (HasLength half (half + half)) pages

-- two columns with a number for each page: its length, and how many of its items are marked
pub record IsColumns {A : Type 0} (is_marked : A → Bool) (pages : List (List A)) (lengths marks : List ℕ) : Type 0 where
  pub lengths_are : lengths ≡ map length pages
  pub marks_are : marks ≡ map (count_by is_marked) pages

-- pages with their columns and the number of all items
pub record IsPaged {A : Type 0} (half : ℕ) (is_marked : A → Bool) (pages : List (List A)) (lengths marks : List ℕ) (count : ℕ) : Type 0 where
  pub paging : IsPaging half pages
  pub columns : IsColumns is_marked pages lengths marks
  pub count_is : count ≡ length (flat pages)
  pub fits : count < 2 ^ 64

-- the items where others stand in place of those of a run of pages
abbrev pub patched : {A : Type 0} → ℕ → ℕ → List A → List (List A) → List A
patched from to items pages = flat (take from pages) ++ (items ++ flat (drop to pages))
