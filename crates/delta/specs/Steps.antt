-- The run-length steps of a delta, and the list of steps that a delta has.
use Rattle.std.specs.Prelude.{◌≡◌, ℕ, zero, suc, ◌+◌, ◌^◌, ◌<◌, Bool, true, false, List, [], ◌∷◌, ◌++◌, length, take}
use Rattle.delta.specs.Cells.{Cells, nothing, covers, inserts, base_length, result_length}
use Rattle.delta.specs.declared.steps.DeltaStep.{DeltaStep}
use Rattle.delta.specs.declared.steps.DeltaStep.TheVariants.{Keep, Insert, Delete}

abbrev pub after_step : DeltaStep → Cells → Cells
after_step (Keep n) rest = covers true n rest
after_step (Insert text) rest = inserts text rest
after_step (Delete n) rest = covers false n rest

-- the delta that a list of steps tells, from the front of the base to its end
abbrev pub cells_of : List DeltaStep → Cells
cells_of [] = nothing
cells_of (s ∷ steps) = after_step s (cells_of steps)

-- no count is 0, and no text is empty
abbrev pub HasContent : DeltaStep → Type 0
HasContent (Keep n) = 0 < n
HasContent (Insert text) = 0 < length text
HasContent (Delete n) = 0 < n

-- steps of one kind are not neighbours, and an insertion does not stand directly behind a deletion
abbrev pub MayFollow : DeltaStep → DeltaStep → Type 0
MayFollow (Keep m) (Keep n) = ⊥
MayFollow (Insert s) (Insert t) = ⊥
MayFollow (Delete m) (Delete n) = ⊥
MayFollow (Delete m) (Insert t) = ⊥
MayFollow (Keep m) (Insert t) = Unit {0}
MayFollow (Keep m) (Delete n) = Unit {0}
MayFollow (Insert s) (Keep n) = Unit {0}
MayFollow (Insert s) (Delete n) = Unit {0}
MayFollow (Delete m) (Keep n) = Unit {0}

abbrev pub MayLead : DeltaStep → List DeltaStep → Type 0
MayLead s [] = Unit {0}
MayLead s (next ∷ steps) = MayFollow s next

-- a step may stand in front of others
pub record IsHead (s : DeltaStep) (steps : List DeltaStep) : Type 0 where
  pub content : HasContent s
  pub leads : MayLead s steps

-- the steps in which a delta is written
abbrev pub IsCanonical : List DeltaStep → Type 0
IsCanonical [] = Unit {0}
IsCanonical (s ∷ steps) = IsHead s steps × IsCanonical steps

-- a list of steps in that form, of this base length, where both lengths fit usize
pub record IsWritten (base : ℕ) (steps : List DeltaStep) : Type 0 where
  pub base_is : base ≡ base_length (cells_of steps)
  pub canonical : IsCanonical steps
  pub base_fits : base < 2 ^ 64
  pub result_fits : result_length (cells_of steps) < 2 ^ 64

-- how many characters of the base a step takes
abbrev pub step_base : DeltaStep → ℕ
step_base (Keep n) = n
step_base (Insert text) = 0
step_base (Delete n) = n

-- how many characters of the result a step gives
abbrev pub step_result : DeltaStep → ℕ
step_result (Keep n) = n
step_result (Insert text) = length text
step_result (Delete n) = 0

-- what a step writes, where so many characters of the base are left
abbrev pub said_by : DeltaStep → List ℕ → List ℕ
said_by (Keep n) left = take n left
said_by (Insert text) left = text
said_by (Delete n) left = []

abbrev pub keep_step : ℕ → List DeltaStep
keep_step zero = []
keep_step (suc n) = Keep (suc n) ∷ []

abbrev pub insert_step : List ℕ → List DeltaStep
insert_step [] = []
insert_step (c ∷ text) = Insert (c ∷ text) ∷ []

abbrev pub delete_step : ℕ → List DeltaStep
delete_step zero = []
delete_step (suc n) = Delete (suc n) ∷ []

-- a run of kept characters and the change behind it, without what is empty
abbrev pub group : ℕ → List ℕ → ℕ → List DeltaStep
group kept text deleted = keep_step kept ++ (insert_step text ++ delete_step deleted)

-- whole groups and a group that is being written, with their result length: however the group
-- grows, the steps are in that form
pub record IsWriting (written : List DeltaStep) (kept : ℕ) (text : List ℕ) (deleted length : ℕ) : Type 0 where
  pub grows : (k : ℕ) (t : List ℕ) (n : ℕ) → IsCanonical (written ++ group (kept + k) t n)
  pub length_is : length ≡ result_length (cells_of (written ++ group kept text deleted))
  pub fits : length < 2 ^ 64

abbrev pub is_keep : DeltaStep → Bool
is_keep (Keep n) = true
is_keep (Insert text) = false
is_keep (Delete n) = false
