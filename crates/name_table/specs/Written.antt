-- The rows as a program writes them.
use Rattle.std.specs.Prelude.{ℕ, List, map}
use denote.Bor.{Bor}

-- each number with the bytes of the text beside it
abbrev pub rows_of : List (ℕ × Bor (List ℕ)) → List (ℕ × List ℕ)
rows_of rows = map (λ row. (row.0, row.1.now)) rows
