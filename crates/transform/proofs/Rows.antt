-- Worked rows, which compute.
use Rattle.std.proofs.Common.{◌≡◌, List, [], ◌∷◌, refl}
use Rattle.std.specs.Prelude.{codes}
use Rattle.delta.specs.Cells.{Cells, applied}
use Rattle.delta.specs.Marks.{composed}
use Rattle.delta.specs.Steps.{cells_of}
use Rattle.delta.specs.declared.steps.DeltaStep.TheVariants.{Keep, Insert, Delete}
use Rattle.transform.specs.Gaps.{editor_by_gaps, daemon_by_gaps}
use Rattle.transform.specs.Carried.{merged, after_editor, past_list, list_past, applied_all}

-- on "ab" the editor deletes a and inserts X behind b, and the daemon deletes b
editor : Cells
editor = cells_of (Delete 1 ∷ (Keep 1 ∷ (Insert (codes "X") ∷ [])))

daemon : Cells
daemon = cells_of (Keep 1 ∷ (Delete 1 ∷ []))

editor_row : editor_by_gaps editor daemon ≡ cells_of (Insert (codes "X") ∷ (Delete 1 ∷ []))
unfolding editor daemon
editor_row = refl

daemon_row : daemon_by_gaps daemon editor ≡ cells_of (Delete 1 ∷ (Keep 1 ∷ []))
unfolding editor daemon
daemon_row = refl

cells_row : after_editor editor daemon ≡ editor_by_gaps editor daemon
unfolding editor daemon
cells_row = refl

merged_row : merged (codes "ab") daemon editor ≡ codes "X"
unfolding editor daemon
merged_row = refl

-- on "a" the editor inserts P behind it, and the daemon Q before it and then R at the end of "Qa"
list : List Cells
list = cells_of (Insert (codes "Q") ∷ (Keep 1 ∷ [])) ∷ (cells_of (Keep 2 ∷ (Insert (codes "R") ∷ [])) ∷ [])

inserted : Cells
inserted = cells_of (Keep 1 ∷ (Insert (codes "P") ∷ []))

list_row : past_list inserted list ≡ cells_of (Keep 3 ∷ (Insert (codes "P") ∷ []))
unfolding inserted list
list_row = refl

list_past_row : list_past inserted list ≡ cells_of (Insert (codes "Q") ∷ (Keep 2 ∷ [])) ∷ (cells_of (Keep 2 ∷ (Insert (codes "R") ∷ (Keep 1 ∷ []))) ∷ [])
unfolding inserted list
list_past_row = refl

list_text_row : applied (past_list inserted list) (applied_all list (codes "a")) ≡ codes "QaRP"
unfolding inserted list
list_text_row = refl

-- carrying past a composition is not carrying past both in turn: on "a" the daemon inserts Y behind
-- it and then deletes a, and the editor inserts P before a
first : Cells
first = cells_of (Keep 1 ∷ (Insert (codes "Y") ∷ []))

second : Cells
second = cells_of (Delete 1 ∷ (Keep 1 ∷ []))

before : Cells
before = cells_of (Insert (codes "P") ∷ (Keep 1 ∷ []))

past_both : after_editor (after_editor before first) second ≡ cells_of (Insert (codes "P") ∷ (Keep 1 ∷ []))
unfolding first second before
past_both = refl

past_composition : after_editor before (composed first second) ≡ cells_of (Keep 1 ∷ (Insert (codes "P") ∷ []))
unfolding first second before
past_composition = refl
