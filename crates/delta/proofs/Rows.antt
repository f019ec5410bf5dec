-- Worked rows, which compute.
use Rattle.std.proofs.Common.{◌≡◌, [], ◌∷◌, refl}
use Rattle.std.specs.Prelude.{codes}
use Rattle.delta.specs.Cells.{joined, keeping, inserting, deleting, inserts, normal, applied}
use Rattle.delta.specs.Marks.{composed}
use Rattle.delta.specs.Steps.{cells_of}
use Rattle.delta.specs.declared.steps.DeltaStep.TheVariants.{Keep, Insert, Delete}

-- a text behind a deleted character stands before it
delete_then_insert : normal (joined (joined (deleting 1) (inserting (codes "X"))) (keeping 1)) ≡ cells_of (Insert (codes "X") ∷ (Delete 1 ∷ (Keep 1 ∷ [])))
delete_then_insert = refl

-- texts that meet are joined in the order of their gaps
texts_meet : normal (cells_of (Insert (codes "a") ∷ (Delete 1 ∷ (Insert (codes "b") ∷ (Delete 1 ∷ (Insert (codes "c") ∷ [])))))) ≡ cells_of (Insert (codes "abc") ∷ (Delete 2 ∷ []))
texts_meet = refl

replace_two : inserts (codes "z") (deleting 2) ≡ cells_of (Insert (codes "z") ∷ (Delete 2 ∷ []))
replace_two = refl

-- an insertion that is deleted again is gone
insert_then_delete : composed (cells_of (Keep 1 ∷ (Insert (codes "X") ∷ (Keep 1 ∷ [])))) (cells_of (Keep 1 ∷ (Delete 2 ∷ []))) ≡ cells_of (Keep 1 ∷ (Delete 1 ∷ []))
insert_then_delete = refl

-- of an insertion that is deleted in part the rest stays
insert_in_part : composed (cells_of (Keep 1 ∷ (Insert (codes "XYZ") ∷ (Keep 1 ∷ [])))) (cells_of (Keep 2 ∷ (Delete 1 ∷ (Keep 2 ∷ [])))) ≡ cells_of (Keep 1 ∷ (Insert (codes "XZ") ∷ (Keep 1 ∷ [])))
insert_in_part = refl

apply_row : applied (cells_of (Keep 1 ∷ (Insert (codes "XY") ∷ (Delete 1 ∷ (Keep 1 ∷ []))))) (codes "abc") ≡ codes "aXYc"
apply_row = refl
