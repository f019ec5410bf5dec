-- Worked rows, which compute.
use Rattle.std.proofs.Common.{◌≡◌, ℕ, List, [], ◌∷◌, Some, None, Ok, Err, refl}
use Rattle.std.specs.Prelude.{codes}
use Rattle.tt_base.specs.declared.edits.TextEdit.{TextEdit}
use Rattle.delta.specs.Steps.{cells_of}
use Rattle.delta.specs.declared.steps.DeltaStep.TheVariants.{Keep, Insert, Delete}
use Rattle.text_position.specs.Places.{offset_at, position_at}
use Rattle.text_position.specs.Edits.{delta_of_edits}
use Rattle.text_position.specs.Changes.{edits_of}
use Rattle.text_position.specs.declared.faults.EditsFault.TheVariants.{BadPosition, BackwardRange}

-- a character is a scalar value, as many bytes as it has
behind_emoji : offset_at (97 ∷ (128512 ∷ (98 ∷ []))) (record { line = 0; character = 2 }) ≡ Some 2
behind_emoji = refl

at_end : offset_at (97 ∷ (128512 ∷ (98 ∷ []))) (record { line = 0; character = 3 }) ≡ Some 3
at_end = refl

past_line : offset_at (97 ∷ (128512 ∷ (98 ∷ []))) (record { line = 0; character = 4 }) ≡ None
past_line = refl

past_text : offset_at (97 ∷ (128512 ∷ (98 ∷ []))) (record { line = 1; character = 0 }) ≡ None
past_text = refl

end_position : position_at (97 ∷ (128512 ∷ (98 ∷ []))) 3 ≡ record { line = 0; character = 3 }
end_position = refl

-- CR is a character of its line, and LF is none
before_lf : offset_at (97 ∷ (13 ∷ (10 ∷ (98 ∷ [])))) (record { line = 0; character = 2 }) ≡ Some 2
before_lf = refl

past_lf : offset_at (97 ∷ (13 ∷ (10 ∷ (98 ∷ [])))) (record { line = 0; character = 3 }) ≡ None
past_lf = refl

second_line : position_at (97 ∷ (13 ∷ (10 ∷ (98 ∷ [])))) 3 ≡ record { line = 1; character = 0 }
second_line = refl

-- a text in the place of characters of one line
abbrev on_line : ℕ → ℕ → ℕ → List ℕ → TextEdit
on_line line start end text =
    record { start = record { line = line; character = start }; end = record { line = line; character = end }; replacement = text }

-- the second edit is for the text that the first leaves
two_edits : delta_of_edits (codes "abc") (on_line 0 1 2 (codes "X") ∷ (on_line 0 2 2 (codes "Y") ∷ [])) ≡ Ok (cells_of (Keep 1 ∷ (Insert (codes "XY") ∷ (Delete 1 ∷ (Keep 1 ∷ [])))))
two_edits = refl

second_is_bad : delta_of_edits (codes "abc") (on_line 0 1 2 (codes "X") ∷ (on_line 0 9 9 (codes "Y") ∷ [])) ≡ Err (BadPosition 1)
second_is_bad = refl

first_is_backward : delta_of_edits (codes "abc") (on_line 0 2 1 (codes "X") ∷ []) ≡ Err (BackwardRange 0)
first_is_backward = refl

edits_row : edits_of (codes "abc") (cells_of (Keep 1 ∷ (Insert (codes "XY") ∷ (Delete 1 ∷ (Keep 1 ∷ []))))) ≡ on_line 0 1 2 (codes "XY") ∷ []
edits_row = refl

-- the edit at the back of the text comes first
from_the_back : edits_of (10 ∷ codes "ab") (cells_of (Insert (codes "X") ∷ (Keep 2 ∷ (Delete 1 ∷ [])))) ≡ on_line 1 1 2 [] ∷ (on_line 0 0 0 (codes "X") ∷ [])
from_the_back = refl
