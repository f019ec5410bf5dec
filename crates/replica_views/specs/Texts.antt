-- The text of an object after a history: its insertion tree, and the full order of that.
use Rattle.std.specs.Prelude.{ℕ, zero, suc, ◌+◌, ◌==◌, List, [], ◌∷◌, ◌++◌, flat_map, length, Option, Some, None, if◌then◌else◌}
use Rattle.std.specs.List.{filter}
use Rattle.tt_base.specs.declared.ids.Name.{Name}
use Rattle.tt_base.specs.declared.ids.ElemId.{ElemId}
use Rattle.tt_base.specs.declared.elements.Element.{Element}
use Rattle.tt_base.specs.declared.text_ops.TextOp.{TextOp}
use Rattle.tt_base.specs.declared.text_ops.TextOp.TheVariants as on_text
use Rattle.change_codec.specs.Change.{Change}
use Rattle.change_codec.specs.declared.ops.Parent.{Parent}
use Rattle.change_codec.specs.declared.ops.Parent.TheVariants.{Root, After}
use Rattle.change_codec.specs.declared.ops.Op.{Op}
use Rattle.change_codec.specs.declared.ops.Op.TheVariants.{Make, Remove, Insert, Delete}
use Rattle.change_graph.specs.History.{History}
use Rattle.change_graph.specs.Refusals.{things_of}
use Rattle.replica_text.specs.Ids.{same}
use Rattle.replica_text.specs.Tree.{Tree, Leaf, walk}
use Rattle.replica_text.specs.Ops.{after_ops}
use Rattle.replica_views.specs.Ids.{depth_at, id_at, id_of}

-- ---- what a change does to the text of an object

abbrev pub parent_of : History → Name → Parent → Option ElemId
parent_of history name Root = None
parent_of history name (After place) = Some (id_of history name place)

-- what an operation does to the text of the object, where the change of this name is at this index
abbrev pub text_op : History → Name → ElemId → ℕ → Op → List TextOp
text_op history name object index (Make path) = []
text_op history name object index (Remove removed) = []
text_op history name object index (Insert own parent text) =
    if same object (id_of history name own)
    then on_text.Insert (id_at history name index) (parent_of history name parent) text ∷ []
    else []
text_op history name object index (Delete own first count) =
    if same object (id_of history name own) then on_text.Delete (id_of history name first) count ∷ [] else []

-- what operations do to it, from an index of their change on
abbrev pub text_ops : History → Name → ElemId → ℕ → List Op → List TextOp
text_ops history name object index [] = []
text_ops history name object index (op ∷ ops) =
    text_op history name object index op ++ text_ops history name object (index + length (things_of op)) ops

-- ---- the changes, each behind all that it depends on

-- the changes of one depth, in the order of their names
abbrev pub layer : History → ℕ → History
layer history depth = filter (λ (held : Name × Change). depth_at history held.0 == depth) history

-- the changes up to a depth, by depth, and then by name
abbrev pub up_to_depth : History → ℕ → History
up_to_depth history zero = []
up_to_depth history (suc depth) = up_to_depth history depth ++ layer history (suc depth)

-- all of them: none is deeper than there are changes
abbrev pub by_depth : History → History
by_depth history = up_to_depth history (length history)

-- ---- the text

-- what the history does to the text of an object
unfoldable pub ops_on : History → ElemId → List TextOp
ops_on history object = flat_map (λ (held : Name × Change). text_ops history held.0 object 0 held.1.ops) (by_depth history)

-- the insertion tree of an object: the characters that changes insert into it, each below the one that it was inserted behind
unfoldable pub tree_of : History → ElemId → Tree
tree_of history object = after_ops (ops_on history object) Leaf

-- its elements in the full order, the deleted ones among them
abbrev pub elements_of : History → ElemId → List Element
elements_of history object = walk (tree_of history object)
