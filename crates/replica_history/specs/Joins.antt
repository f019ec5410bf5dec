-- What joins leave of each object.
use Rattle.std.specs.Prelude.{◌≡◌, List, Option, Some, None}
use Rattle.std.specs.Map.{lookup}
use Rattle.delta.specs.Cells.{Cells}
use Rattle.tt_base.specs.declared.ids.ElemId.{ElemId}
use Rattle.tt_base.specs.declared.elements.Element.{Element}
use Rattle.tt_base.specs.declared.text_ops.TextOp.{TextOp}
use Rattle.replica_dir.specs.Ids.{is_id}
use Rattle.replica_text.specs.Ids.{is_known}
use Rattle.replica_text.specs.Tree.{Tree, IsTree, walk}
use Rattle.replica_text.specs.Ops.{AllMayFollow, after_ops}
use Rattle.replica_text.specs.Effect.{effect}
use Rattle.replica_history.specs.declared.texts.KeptText.{KeptText}

-- the operations are possible on the text of an object, where one is kept
abbrev pub MayJoin : Option KeptText → List TextOp → Type 0
MayJoin None ops = Unit {0}
MayJoin (Some kept) ops = AllMayFollow ops (is_known kept.text)

-- The operations were joined to a text: whatever tree its elements are the full order of, they are now that of the tree with the
-- operations.
pub record IsTextJoined (kept : KeptText) (ops : List TextOp) (later : Option KeptText) (delta : Option Cells) : Type 0 where
  pub elements : List Element
  pub later_is : later ≡ Some (record { path = kept.path; text = elements })
  pub delta_is : delta ≡ Some (effect kept.text elements)
  pub order : (tree : Tree) → IsTree tree → walk tree ≡ kept.text → walk (after_ops ops tree) ≡ elements

-- the same of what is kept of an object, if anything is
abbrev pub IsJoined : Option KeptText → List TextOp → Option KeptText → Option Cells → Type 0
IsJoined None ops later delta = (later ≡ None) × (delta ≡ None)
IsJoined (Some kept) ops later delta = IsTextJoined kept ops later delta

-- the delta that a join answered, by object
abbrev pub delta_at : List (ElemId × Cells) → ElemId → Option Cells
delta_at deltas object = lookup (is_id object) deltas

-- an object that has a delta was joined already; another one is joined now
abbrev pub IsJoinedOnce : Option Cells → Option KeptText → List TextOp → Option KeptText → Option Cells → Type 0
IsJoinedOnce (Some before) kept ops later delta = (later ≡ kept) × (delta ≡ Some before)
IsJoinedOnce None kept ops later delta = IsJoined kept ops later delta

-- an object that has a delta was joined, and another one is as before
abbrev pub IsJoinedIfTold : Option KeptText → List TextOp → Option KeptText → Option Cells → Type 0
IsJoinedIfTold kept ops later None = later ≡ kept
IsJoinedIfTold kept ops later (Some delta) = IsJoined kept ops later (Some delta)
