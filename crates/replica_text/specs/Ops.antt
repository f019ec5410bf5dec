-- What the operations of a change do to the insertion tree of a text, and where they are possible.
use Rattle.std.specs.Prelude.{◌≡◌, ℕ, zero, suc, ◌+◌, ◌^◌, ◌≤◌, Bool, true, false, ◌||◌, List, [], ◌∷◌, Option, Some, None, length}
use Rattle.tt_base.specs.declared.ids.ElemId.{ElemId}
use Rattle.tt_base.specs.declared.text_ops.TextOp.{TextOp}
use Rattle.tt_base.specs.declared.text_ops.TextOp.TheVariants.{Insert, Delete}
use Rattle.replica_text.specs.Ids.{less, next_id, is_in_run}
use Rattle.replica_text.specs.Tree.{Tree, with_element, without}

-- a run of characters below a parent, each below the one before it
abbrev pub with_run : ElemId → Option ElemId → List ℕ → Tree → Tree
with_run first parent [] tree = tree
with_run first parent (ch ∷ text) tree =
    with_run (next_id first) (Some first) text (with_element parent (record { id = first; ch = ch; alive = true }) tree)

-- the tree in which so many elements, from the first id on, are tombstones
abbrev pub without_run : ElemId → ℕ → Tree → Tree
without_run first zero tree = tree
without_run first (suc count) tree = without_run (next_id first) count (without first tree)

abbrev pub after_op : TextOp → Tree → Tree
after_op (Insert first parent text) tree = with_run first parent text tree
after_op (Delete first count) tree = without_run first count tree

-- the tree with the operations
abbrev pub after_ops : List TextOp → Tree → Tree
after_ops [] tree = tree
after_ops (op ∷ ops) tree = after_ops ops (after_op op tree)

-- the ids that are known once an operation is done
abbrev pub known_after : TextOp → (ElemId → Bool) → ElemId → Bool
known_after (Insert first parent text) known id = is_in_run first (length text) id || known id
known_after (Delete first count) known id = known id

-- the parent is known, and less than the new id
abbrev pub MayBeParent : Option ElemId → ElemId → (ElemId → Bool) → Type 0
MayBeParent None id known = Unit {0}
MayBeParent (Some parent) id known = (known parent ≡ true) × (less parent id ≡ true)

-- each id of a run is known, or each is not
abbrev pub IsRunKnown : Bool → ElemId → ℕ → (ElemId → Bool) → Type 0
IsRunKnown answer first zero known = Unit {0}
IsRunKnown answer first (suc count) known = (known first ≡ answer) × IsRunKnown answer (next_id first) count known

pub record MayInsert (first : ElemId) (parent : Option ElemId) (count : ℕ) (known : ElemId → Bool) : Type 0 where
  pub below : MayBeParent parent first known
  pub fresh : IsRunKnown false first count known
  pub fits : first.index + count ≤ 2 ^ 64

pub record MayDelete (first : ElemId) (count : ℕ) (known : ElemId → Bool) : Type 0 where
  pub there : IsRunKnown true first count known
  pub fits : first.index + count ≤ 2 ^ 64

-- an operation is possible where these ids are known: its parent or the elements that it deletes are known, its new ids are
-- not and are greater than the parent, and their indexes fit u64
abbrev pub MayFollow : TextOp → (ElemId → Bool) → Type 0
MayFollow (Insert first parent text) known = MayInsert first parent (length text) known
MayFollow (Delete first count) known = MayDelete first count known

-- the operations are possible one after another
abbrev pub AllMayFollow : List TextOp → (ElemId → Bool) → Type 0
AllMayFollow [] known = Unit {0}
AllMayFollow (op ∷ ops) known = MayFollow op known × AllMayFollow ops (known_after op known)

-- the ids that are known once the operations are done
abbrev pub all_known_after : List TextOp → (ElemId → Bool) → ElemId → Bool
all_known_after [] known = known
all_known_after (op ∷ ops) known = all_known_after ops (known_after op known)
