-- A step at the end of a list of steps, and what a builder has behind each of its calls.
use Rattle.std.proofs.Common.{◌≡◌, ℕ, ◌+◌, true, false, List, [], ◌∷◌, ◌++◌, refl, ap, ◌∙◌, arith}
use Rattle.std.proofs.lemmas.List.{append-nil}
use Rattle.delta.specs.Cells.{Cells, base_length, inserting, deleting, keeping, joined, nothing}
use Rattle.delta.specs.Steps.{after_step, step_base, cells_of}
use Rattle.delta.specs.declared.steps.DeltaStep.{DeltaStep}
use Rattle.delta.specs.declared.steps.DeltaStep.TheVariants.{Keep, Insert, Delete}
use Rattle.delta.proofs.CellsLemmas.{base_length-joined, base_length-covers}
use Rattle.delta.proofs.StepsLemmas.{cells_of-append}
use Rattle.delta.proofs.WriterLemmas.{base_length-after_step}

push_step : (ss ts : List DeltaStep) (s : DeltaStep) (d : Cells) → ts ≡ ss ++ s ∷ [] → cells_of ss ≡ d → cells_of ts ≡ joined d (after_step s nothing)
push_step ss ts s d more is =
    ap cells_of more ∙ cells_of-append ss (s ∷ []) ∙ ap (λ e. joined e (after_step s nothing)) is

pub push_keep : (ss ts : List DeltaStep) (n : ℕ) (d : Cells) → ts ≡ ss ++ Keep n ∷ [] → cells_of ss ≡ d → cells_of ts ≡ joined d (keeping n)
push_keep ss ts n d more is = push_step ss ts (Keep n) d more is

pub push_delete : (ss ts : List DeltaStep) (n : ℕ) (d : Cells) → ts ≡ ss ++ Delete n ∷ [] → cells_of ss ≡ d → cells_of ts ≡ joined d (deleting n)
push_delete ss ts n d more is = push_step ss ts (Delete n) d more is

pub push_insert : (ss ts : List DeltaStep) (t u : List ℕ) (d : Cells) → ts ≡ ss ++ Insert t ∷ [] → t ≡ u → cells_of ss ≡ d → cells_of ts ≡ joined d (inserting u)
push_insert ss ts t u d more same is =
    push_step ss ts (Insert t) d more is ∙ ap (λ l. joined d (inserting l)) (append-nil t ∙ same)

-- the base grows by what the step covers
pub push_base : (ss ts : List DeltaStep) (s : DeltaStep) (b : ℕ) → ts ≡ ss ++ s ∷ [] → b ≡ base_length (cells_of ss) → b + step_base s ≡ base_length (cells_of ts)
push_base ss ts s b more is =
    omega (arith, ap base_length (push_step ss ts s (cells_of ss) more refl), base_length-joined (cells_of ss) (after_step s nothing), base_length-after_step s nothing)

pub base_length-keep : (d e : Cells) (n : ℕ) → e ≡ joined d (keeping n) → base_length e ≡ base_length d + n
base_length-keep d e n is =
    omega (arith, ap base_length is, base_length-joined d (keeping n), base_length-covers true n nothing)

pub base_length-insert : (d e : Cells) (t : List ℕ) → e ≡ joined d (inserting t) → base_length e ≡ base_length d
base_length-insert d e t is = omega (arith, ap base_length is, base_length-joined d (inserting t))

pub base_length-delete : (d e : Cells) (n : ℕ) → e ≡ joined d (deleting n) → base_length e ≡ base_length d + n
base_length-delete d e n is =
    omega (arith, ap base_length is, base_length-joined d (deleting n), base_length-covers false n nothing)
