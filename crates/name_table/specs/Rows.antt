-- The rows of a table of names: each is the pair of a number and a word, which is its UTF-8 bytes.
use Rattle.std.specs.Prelude.{ℕ, Bool, ◌==◌, ◌&&◌, true, List, [], ◌∷◌, map, find, not, Option, IsTrue}
use Rattle.std.specs.List.{list_any}
use Rattle.std.specs.Option.{option_map}
use Rattle.std.specs.Str.{bytes_eq}

-- no item is equal to a later one
abbrev pub are_distinct : {X : Type 0} → (X → X → Bool) → List X → Bool
are_distinct eq [] = true
are_distinct eq (x ∷ xs) = not (list_any (eq x) xs) && are_distinct eq xs

-- the rows' numbers are distinct, and so are their words
pub record HasDistinctRows (rows : List (ℕ × List ℕ)) : Type 0 where
  pub numbers : IsTrue (are_distinct ◌==◌ (map (λ row. row.0) rows))
  pub words : IsTrue (are_distinct bytes_eq (map (λ row. row.1) rows))

-- the number of the first row that has the word
abbrev pub number_of : List ℕ → List (ℕ × List ℕ) → Option ℕ
number_of word rows = option_map (λ row. row.0) (find (λ row. bytes_eq row.1 word) rows)

-- the word of the first row that has the number
abbrev pub word_of : ℕ → List (ℕ × List ℕ) → Option (List ℕ)
word_of number rows = option_map (λ row. row.1) (find (λ row. row.0 == number) rows)
