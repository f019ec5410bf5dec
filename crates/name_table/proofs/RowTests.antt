-- Rows of a table as they compute.
use Rattle.std.proofs.Common.{◌≡◌, ℕ, List, [], ◌∷◌, Some, None, refl}
use Rattle.std.specs.Prelude.{codes}
use Rattle.name_table.specs.Rows.{number_of, word_of}

abbrev methods : List (ℕ × List ℕ)
methods = (1, codes "open") ∷ (2, codes "close") ∷ (3, codes "edit") ∷ (4, codes "cursor") ∷ (5, codes "shutdown") ∷ []

pub edit-is-3 : number_of (codes "edit") methods ≡ Some 3
edit-is-3 = refl

pub save-is-none : number_of (codes "save") methods ≡ None
save-is-none = refl

pub none-has-6 : word_of 6 methods ≡ None
none-has-6 = refl
