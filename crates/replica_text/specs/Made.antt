-- A change of the visible text as operations on elements: at each gap, from the first on, an insertion, and then a deletion of
-- the character behind the gap, where one deletion runs over neighbours whose ids go on by 1. The project's own encoding.
use Rattle.std.specs.Prelude.{◌≡◌, ℕ, ◌+◌, Bool, true, false, not, List, [], ◌∷◌, ◌++◌, Option, Some, None, length, map, if◌then◌else◌}
use Rattle.std.specs.List.{filter}
use Rattle.delta.specs.Cells.{Cell, Cells}
use Rattle.tt_base.specs.Elements.{is_alive}
use Rattle.tt_base.specs.declared.ids.ElemId.{ElemId}
use Rattle.tt_base.specs.declared.elements.Element.{Element}
use Rattle.tt_base.specs.declared.text_ops.TextOp.{TextOp}
use Rattle.tt_base.specs.declared.text_ops.TextOp.TheVariants.{Insert, Delete}
use Rattle.replica_text.specs.Ids.{less, same, shifted}

-- the ids of the elements that are visible
abbrev pub visible_ids : List Element → List ElemId
visible_ids elements = map (λ (e : Element). e.id) (filter is_alive elements)

-- the insertion of a text behind a visible element or at the front, if there is a text
abbrev pub insertion : ElemId → Option ElemId → List ℕ → List TextOp
insertion next left [] = []
insertion next left (ch ∷ text) = Insert next left (ch ∷ text) ∷ []

-- a deletion before others: it is one with the first of them if that goes on with the next id
abbrev pub deletion : ElemId → ℕ → List TextOp → List TextOp
deletion first count [] = Delete first count ∷ []
deletion first count (Insert next parent text ∷ ops) = Delete first count ∷ (Insert next parent text ∷ ops)
deletion first count (Delete next more ∷ ops) =
    if same (shifted first count) next then Delete first (count + more) ∷ ops else Delete first count ∷ (Delete next more ∷ ops)

-- the deletions of neighbours
abbrev pub deletions : List ElemId → List TextOp
deletions [] = []
deletions (id ∷ ids) = deletion id 1 (deletions ids)

-- whether the first character is deleted
abbrev pub begins_deleted : List Cell → Bool
begins_deleted [] = false
begins_deleted (c ∷ cs) = not c.kept

-- before the operations behind it: nothing for a character that is kept, and the deletion of one that is not, where a neighbour
-- that is deleted too may share it
abbrev pub at_place : (kept shares : Bool) → ElemId → List TextOp → List TextOp
at_place true shares id ops = ops
at_place false true id ops = deletion id 1 ops
at_place false false id ops = Delete id 1 ∷ ops

-- gap by gap, where `left` is the visible element before the first gap and `next` the id of the next new character
abbrev pub made_from : List Cell → List ℕ → List ElemId → Option ElemId → ElemId → List TextOp
made_from [] last ids left next = insertion next left last
made_from (c ∷ cs) last [] left next = []
made_from (c ∷ cs) last (id ∷ ids) left next =
    insertion next left c.inserted ++ at_place c.kept (begins_deleted cs) id (made_from cs last ids (Some id) (shifted next (length c.inserted)))

-- the operations of a change that a delta is made to, whose new characters have the ids from `next` on
abbrev pub made_ops : List Element → Cells → ElemId → List TextOp
made_ops elements d next = made_from d.cells d.last (visible_ids elements) None next

abbrev pub inserted_length_of : List Cell → List ℕ → ℕ
inserted_length_of [] last = length last
inserted_length_of (c ∷ cs) last = length c.inserted + inserted_length_of cs last

-- the number of characters that a delta inserts
abbrev pub inserted_length : Cells → ℕ
inserted_length d = inserted_length_of d.cells d.last

-- the id is greater than each of these
abbrev pub IsAbove : ElemId → List Element → Type 0
IsAbove id [] = Unit {0}
IsAbove id (e ∷ elements) = (less e.id id ≡ true) × IsAbove id elements
