-- What the laws of the insertion tree speak of.
use Rattle.std.specs.Prelude.{◌≡◌, ◌⊎◌, List, [], ◌∷◌, ◌++◌, Option, Some, None}
use Rattle.tt_base.specs.declared.ids.ElemId.{ElemId}
use Rattle.tt_base.specs.declared.elements.Element.{Element}
use Rattle.tt_base.specs.declared.text_ops.TextOp.{TextOp}
use Rattle.replica_text.specs.Tree.{Tree, Leaf, Node, IsTree, walk}

abbrev pub IsNotParent : Option ElemId → ElemId → Type 0
IsNotParent None id = Unit {0}
IsNotParent (Some parent) id = parent ≡ id → ⊥

-- two elements with their parents: neither is the other's parent, and their ids differ
pub record AreApart (p : Option ElemId) (one : Element) (q : Option ElemId) (other : Element) : Type 0 where
  pub up : IsNotParent p other.id
  pub down : IsNotParent q one.id
  pub differ : one.id ≡ other.id → ⊥

-- a tree whose full order these elements are
pub record IsOrderOf (elements : List Element) : Type 0 where
  pub tree : Tree
  pub is_tree : IsTree tree
  pub walks : walk tree ≡ elements

-- the element stands below this parent, in a tree whose first elements stand below `here`
abbrev pub IsBelow : Option ElemId → Option ElemId → Element → Tree → Type 0
IsBelow here parent element Leaf = ⊥
IsBelow here parent element (Node e children siblings) =
    ((here ≡ parent) × (e ≡ element)) ⊎ (IsBelow (Some e.id) parent element children ⊎ IsBelow here parent element siblings)

-- the tree has the element below this parent, or below the root
abbrev pub HasEdge : Tree → Option ElemId → Element → Type 0
HasEdge tree parent element = IsBelow None parent element tree

-- the element stands somewhere behind the one with this id
pub record StandsBehind (parent : ElemId) (element : Element) (elements : List Element) : Type 0 where
  pub before : List Element
  pub ancestor : Element
  pub between : List Element
  pub behind : List Element
  pub whole : elements ≡ before ++ ancestor ∷ (between ++ element ∷ behind)
  pub is_parent : ancestor.id ≡ parent

-- the operation is among these, and this holds of the others
pub record IsAmong (op : TextOp) (ops : List TextOp) (Others : List TextOp → Type 0) : Type 0 where
  pub front : List TextOp
  pub behind : List TextOp
  pub whole : ops ≡ front ++ op ∷ behind
  pub rest : Others (front ++ behind)

-- the same operations, in any order
abbrev pub IsRearranged : List TextOp → List TextOp → Type 0
IsRearranged [] ops = ops ≡ []
IsRearranged (op ∷ others) ops = IsAmong op ops (λ rest. IsRearranged others rest)

-- the two trees have the same elements below the same parents
pub record HaveEqualEdges (one other : Tree) : Type 0 where
  pub there : (parent : Option ElemId) (element : Element) → HasEdge one parent element → HasEdge other parent element
  pub back : (parent : Option ElemId) (element : Element) → HasEdge other parent element → HasEdge one parent element
