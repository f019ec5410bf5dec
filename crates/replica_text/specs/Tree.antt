-- The insertion tree of a text (causal trees; replicated growable arrays of Roh and others, 2011, in this reading): each
-- element below the one that it was inserted behind. It is a set of edges, and its walk is the full order of the text.
use Rattle.std.specs.Prelude.{◌≡◌, Bool, true, false, List, [], ◌∷◌, ◌++◌, Option, Some, None, if◌then◌else◌}
use Rattle.tt_base.specs.declared.ids.ElemId.{ElemId}
use Rattle.tt_base.specs.declared.elements.Element.{Element}
use Rattle.replica_text.specs.Ids.{less, same}

-- the children of one parent, the first of them with the elements below it and with its later siblings
pub data Tree : Type 0 where
  Leaf : Tree
  Node : (element : Element) → (children : Tree) → (siblings : Tree) → Tree

-- the full order: an element before its children, and siblings in turn
abbrev pub walk : Tree → List Element
walk Leaf = []
walk (Node e children siblings) = e ∷ (walk children ++ walk siblings)

-- there is no sibling, or the first one is less
abbrev pub FallsFrom : ElemId → Tree → Type 0
FallsFrom id Leaf = Unit {0}
FallsFrom id (Node e children siblings) = less e.id id ≡ true

-- what holds of an element, of its children, of the order of its siblings, and of these
pub record HoldsOfNode (Own Below Order Beside : Type 0) : Type 0 where
  pub own : Own
  pub below : Below
  pub order : Order
  pub beside : Beside

-- each of these siblings passes the test, they fall, and each child's id is greater than its parent's
abbrev pub IsTreeUnder : (ElemId → Bool) → Tree → Type 0
IsTreeUnder may Leaf = Unit {0}
IsTreeUnder may (Node e children siblings) =
    HoldsOfNode (may e.id ≡ true) (IsTreeUnder (less e.id) children) (FallsFrom e.id siblings) (IsTreeUnder may siblings)

-- siblings in falling order of id, and each id greater than its parent's
abbrev pub IsTree : Tree → Type 0
IsTree tree = IsTreeUnder (λ id. true) tree

-- an element more among these siblings, before the first that is less
abbrev pub with_sibling : Element → Tree → Tree
with_sibling new Leaf = Node new Leaf Leaf
with_sibling new (Node e children siblings) =
    if less new.id e.id then Node e children (with_sibling new siblings) else Node new Leaf (Node e children siblings)

-- an element more among the children of a parent
abbrev pub with_child : ElemId → Element → Tree → Tree
with_child parent new Leaf = Leaf
with_child parent new (Node e children siblings) =
    if same parent e.id then Node e (with_sibling new children) siblings
    else Node e (with_child parent new children) (with_child parent new siblings)

-- an element more, below its parent or the root
abbrev pub with_element : Option ElemId → Element → Tree → Tree
with_element None new tree = with_sibling new tree
with_element (Some parent) new tree = with_child parent new tree

-- the tree in which the element with an id is a tombstone
abbrev pub without : ElemId → Tree → Tree
without id Leaf = Leaf
without id (Node e children siblings) =
    Node (if same id e.id then record e { alive = false } else e) (without id children) (without id siblings)
