-- Characters that were typed one by one, each by a change of the next depth, from depth 1 on.
use Rattle.std.specs.Prelude.{◌≡◌, ℕ, ◌≤◌, Bool, true, Option, Some, None}
use Rattle.tt_base.specs.declared.ids.ElemId.{ElemId}

-- the same id at another depth
abbrev pub at_depth : ElemId → ℕ → ElemId
at_depth id depth = record id { depth = depth }

-- the first so many are known, and nothing of a greater depth
pub record AreTyped (id : ElemId) (count : ℕ) (known : ElemId → Bool) : Type 0 where
  pub there : (depth : ℕ) → 1 ≤ depth → depth ≤ count → known (at_depth id depth) ≡ true
  pub no_more : (other : ElemId) → known other ≡ true → other.depth ≤ count

-- the character at that depth, or the root
abbrev pub parent_at : ElemId → Option ℕ → Option ElemId
parent_at id None = None
parent_at id (Some depth) = Some (at_depth id depth)

-- it is one of the first so many, if it is one at all
abbrev pub IsTypedBefore : Option ℕ → ℕ → Type 0
IsTypedBefore None count = Unit {0}
IsTypedBefore (Some depth) count = (1 ≤ depth) × (depth ≤ count)
