-- Worked schedules, which compute: two editors of one text "ab", in both machines.
use Rattle.std.proofs.Common.{◌≡◌, ℕ, ◌+◌, List, [], ◌∷◌, ◌++◌, length, map, Option, Some, refl}
use Rattle.std.specs.Prelude.{codes}
use Rattle.std.specs.Option.{option_map}
use Rattle.delta.specs.Cells.{Cells, keeping}
use Rattle.delta.specs.Steps.{cells_of}
use Rattle.delta.specs.declared.steps.DeltaStep.TheVariants.{Keep, Insert}
use Rattle.bridge_world.specs.Plain as P
use Rattle.bridge_world.specs.Plain.{Accepts}
use Rattle.bridge_world.specs.Counted as N
use Rattle.bridge_world.specs.Room.{Room, Move, Joins, Types, Opens, Closes, Handles, Delivers, plain_step, counted_step, run, empty_room}

abbrev plain_texts : Room P.Editor → List (List ℕ)
plain_texts w = w.view ∷ map (λ (e : P.Editor). e.text) w.editors

abbrev counted_texts : Room N.Editor → List (List ℕ)
counted_texts w = w.view ∷ map (λ (e : N.Editor). e.text) w.editors

-- how many messages and marks are under way
abbrev under_way : Room P.Editor → List ℕ
under_way w = map (λ (e : P.Editor). length e.sent + length e.wire) w.editors

-- the texts of daemon and editors after these moves, without counts and with them
abbrev plainly : List Move → Option (List (List ℕ))
plainly moves = option_map plain_texts (run plain_step moves (empty_room (codes "ab")))

abbrev counting : List Move → Option (List (List ℕ))
counting moves = option_map counted_texts (run counted_step moves (empty_room (codes "ab")))

abbrev waiting : List Move → Option (List ℕ)
waiting moves = option_map under_way (run plain_step moves (empty_room (codes "ab")))

abbrev inserting : List ℕ → Cells
inserting text = cells_of (Keep 1 ∷ (Insert text ∷ (Keep 1 ∷ [])))

-- both editors have opened the text
abbrev opened : List Move
opened =
    Joins (codes "ab") ∷ (Joins (codes "ab") ∷ (Handles 0 Accepts ∷ (Delivers 0 ∷ (Handles 1 Accepts ∷ (Delivers 1 ∷ [])))))

-- they insert at one gap, the daemon has the first edit, and its frame comes to the second editor
abbrev crossed : List Move
crossed =
    opened ++ (Types 0 (inserting (codes "X")) ∷ (Types 1 (inserting (codes "Y")) ∷ (Handles 0 Accepts ∷ (Delivers 1 ∷ []))))

second_has_own : plainly crossed ≡ Some (codes "aXb" ∷ (codes "aXb" ∷ (codes "aYb" ∷ [])))
second_has_own = refl

second_has_own_by_number : counting crossed ≡ Some (codes "aXb" ∷ (codes "aXb" ∷ (codes "aYb" ∷ [])))
second_has_own_by_number = refl

-- the second edit is taken, and all comes
abbrev met : List Move
met = crossed ++ (Handles 1 Accepts ∷ (Delivers 0 ∷ (Delivers 0 ∷ (Delivers 1 ∷ (Delivers 1 ∷ [])))))

all_have_both : plainly met ≡ Some (codes "aXYb" ∷ (codes "aXYb" ∷ (codes "aXYb" ∷ [])))
all_have_both = refl

all_have_both_by_number : counting met ≡ Some (codes "aXYb" ∷ (codes "aXYb" ∷ (codes "aXYb" ∷ [])))
all_have_both_by_number = refl

nothing_under_way : waiting met ≡ Some (0 ∷ (0 ∷ []))
nothing_under_way = refl

-- an editor closes and opens again while a frame of its old link is under way, which is numbered 0 as the new one
abbrev reopened : List Move
reopened =
    opened ++ (Types 1 (inserting (codes "Y")) ∷ (Handles 1 Accepts ∷ (Closes 0 ∷ (Opens 0 ∷ (Handles 0 Accepts ∷ (Handles 0 Accepts ∷ (Delivers 0 ∷ [])))))))

old_frame_passes : plainly reopened ≡ Some (codes "aYb" ∷ (codes "ab" ∷ (codes "aYb" ∷ [])))
old_frame_passes = refl

old_frame_passes_by_number : counting reopened ≡ Some (codes "aYb" ∷ (codes "ab" ∷ (codes "aYb" ∷ [])))
old_frame_passes_by_number = refl

new_frame_comes : plainly (reopened ++ (Delivers 0 ∷ (Delivers 0 ∷ (Delivers 0 ∷ [])))) ≡ Some (codes "aYb" ∷ (codes "aYb" ∷ (codes "aYb" ∷ [])))
new_frame_comes = refl

new_frame_comes_by_number : counting (reopened ++ (Delivers 0 ∷ (Delivers 0 ∷ (Delivers 0 ∷ [])))) ≡ Some (codes "aYb" ∷ (codes "aYb" ∷ (codes "aYb" ∷ [])))
new_frame_comes_by_number = refl

-- an edit that changes nothing is answered, and the other editor is not told
nothing_is_told : waiting (opened ++ (Types 0 (keeping 2) ∷ (Handles 0 Accepts ∷ []))) ≡ Some (1 ∷ (0 ∷ []))
nothing_is_told = refl
