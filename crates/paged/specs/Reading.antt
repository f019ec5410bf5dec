-- A list in pages that is read from a place on.
use Rattle.std.specs.Prelude.{◌≡◌, ℕ, ◌<◌, List, [], length, slice_index_or}
use Rattle.std.specs.List.{All}

-- pages that are left to read, the first without the items that were used of it
pub record IsReading {A : Type 0} (pages : List (List A)) (used : ℕ) : Type 0 where
  pub some : All (λ page. 0 < length page) pages
  pub inside : 0 < length pages → used < length (slice_index_or pages 0 [])
  pub none : length pages ≡ 0 → used ≡ 0
