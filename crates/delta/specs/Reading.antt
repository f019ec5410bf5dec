-- Reading the steps of a delta from the front, a step at a time or in parts.
use Rattle.std.specs.Prelude.{ℕ, ◌+◌, ◌-◌, List, [], ◌∷◌, length, take, drop}
use Rattle.delta.specs.declared.steps.DeltaStep.{DeltaStep}
use Rattle.delta.specs.declared.steps.DeltaStep.TheVariants.{Keep, Insert, Delete}
use Rattle.delta.specs.declared.readers.NextStep.{NextStep}
use Rattle.delta.specs.declared.readers.NextStep.TheVariants.{Keep as KeepNext, Insert as InsertNext, Delete as DeleteNext, End as AtEnd}

-- the number of characters that a step keeps, inserts or deletes
abbrev pub step_size : DeltaStep → ℕ
step_size (Keep n) = n
step_size (Insert text) = length text
step_size (Delete n) = n

-- the numbers of all steps together
abbrev pub size_of : List DeltaStep → ℕ
size_of [] = 0
size_of (s ∷ steps) = step_size s + size_of steps

-- a step without its first characters
abbrev pub rest_of_step : ℕ → DeltaStep → DeltaStep
rest_of_step used (Keep n) = Keep (n - used)
rest_of_step used (Insert text) = Insert (drop used text)
rest_of_step used (Delete n) = Delete (n - used)

-- the steps without the first characters of the first
abbrev pub steps_left : ℕ → List DeltaStep → List DeltaStep
steps_left used [] = []
steps_left used (s ∷ steps) = rest_of_step used s ∷ steps

-- the first characters of the first step
abbrev pub front_part : ℕ → List DeltaStep → DeltaStep
front_part count [] = Keep 0
front_part count (Keep n ∷ steps) = Keep count
front_part count (Insert text ∷ steps) = Insert (take count text)
front_part count (Delete n ∷ steps) = Delete count

abbrev pub first_size : List DeltaStep → ℕ
first_size [] = 0
first_size (s ∷ steps) = step_size s

-- the text of the first step, where that inserts
abbrev pub text_ahead : List DeltaStep → List ℕ
text_ahead [] = []
text_ahead (Keep n ∷ steps) = []
text_ahead (Insert text ∷ steps) = text
text_ahead (Delete n ∷ steps) = []

-- what the first step does, and to how many characters
abbrev pub next_of : List DeltaStep → NextStep
next_of [] = AtEnd
next_of (Keep n ∷ steps) = KeepNext n
next_of (Insert text ∷ steps) = InsertNext (length text)
next_of (Delete n ∷ steps) = DeleteNext n
