-- Worked rows, which compute: a link on "ab" whose daemon inserts X at gap 1, while its editor inserts Y there.
use Rattle.std.proofs.Common.{◌≡◌, [], ◌∷◌, Some, None, refl}
use Rattle.std.specs.Prelude.{codes}
use Rattle.delta.specs.Cells.{Cells, keeping}
use Rattle.delta.specs.Steps.{cells_of}
use Rattle.delta.specs.declared.steps.DeltaStep.TheVariants.{Keep, Insert}
use Rattle.editor_bridge.specs.Link.{Link, new_link, daemon_text, editor_text, with_pushed, with_edit, carried_edit}
use Rattle.editor_bridge.specs.Faults.{edit_fault}
use Rattle.editor_bridge.specs.declared.faults.BridgeFault.TheVariants.{RevisionAhead, RevisionBack, LengthDiffers}

abbrev x : Cells
x = cells_of (Keep 1 ∷ (Insert (codes "X") ∷ (Keep 1 ∷ [])))

abbrev y : Cells
y = cells_of (Keep 1 ∷ (Insert (codes "Y") ∷ (Keep 1 ∷ [])))

abbrev pushed : Link
pushed = with_pushed x (new_link (codes "ab"))

abbrev taken : Link
taken = with_edit 0 y pushed

carried : carried_edit 0 y pushed ≡ cells_of (Keep 2 ∷ (Insert (codes "Y") ∷ (Keep 1 ∷ [])))
carried = refl

again : taken.unconfirmed ≡ cells_of (Keep 1 ∷ (Insert (codes "X") ∷ (Keep 2 ∷ []))) ∷ []
again = refl

daemons_text : daemon_text taken ≡ codes "aXYb"
daemons_text = refl

editors_text : editor_text 0 taken ≡ codes "aYb"
editors_text = refl

ahead : edit_fault 2 (keeping 4) taken ≡ Some (RevisionAhead 2 1)
ahead = refl

accepted : edit_fault 1 (keeping 4) taken ≡ None
accepted = refl

nothing_again : (with_edit 1 (keeping 4) taken).unconfirmed ≡ []
nothing_again = refl

back : edit_fault 0 (keeping 4) (with_edit 1 (keeping 4) taken) ≡ Some (RevisionBack 0 1)
back = refl

differs : edit_fault 1 (keeping 9) (with_edit 1 (keeping 4) taken) ≡ Some (LengthDiffers 9 4)
differs = refl
