-- What each step of a delta adds to the operations of a made change.
use Rattle.std.specs.Prelude.{ℕ, zero, suc, ◌+◌, ◌^◌, ◌≤◌, List, [], ◌∷◌, Option, None, length, take, drop, slice_get}
use Rattle.delta.specs.declared.steps.DeltaStep.{DeltaStep}
use Rattle.delta.specs.declared.steps.DeltaStep.TheVariants.{Keep, Insert as InsertStep, Delete as DeleteStep}
use Rattle.tt_base.specs.declared.ids.ElemId.{ElemId}
use Rattle.tt_base.specs.declared.text_ops.TextOp.{TextOp}
use Rattle.tt_base.specs.declared.text_ops.TextOp.TheVariants.{Insert, Delete}
use Rattle.replica_text.specs.Made.{deletions}

-- the visible element on the left of a gap
abbrev pub left_at : List ElemId → ℕ → Option ElemId
left_at ids zero = None
left_at ids (suc place) = slice_get ids place

abbrev pub step_ops : DeltaStep → List ElemId → ℕ → ElemId → List TextOp
step_ops (Keep n) ids place next = []
step_ops (InsertStep text) ids place next = Insert next (left_at ids place) text ∷ []
step_ops (DeleteStep n) ids place next = deletions (take n (drop place ids))

-- how many characters the step inserts
abbrev pub step_inserted : DeltaStep → ℕ
step_inserted (Keep n) = 0
step_inserted (InsertStep text) = length text
step_inserted (DeleteStep n) = 0

-- the indexes of what is deleted fit u64
abbrev pub DeletionsFit : List TextOp → Type 0
DeletionsFit [] = Unit {0}
DeletionsFit (Insert first parent text ∷ ops) = DeletionsFit ops
DeletionsFit (Delete first count ∷ ops) = (first.index + count ≤ 2 ^ 64) × DeletionsFit ops
