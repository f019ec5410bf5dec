-- The visible text, and what leads from one to a later one, as a comparison element by element.
use Rattle.std.specs.Prelude.{ℕ, Bool, true, false, ◌&&◌, List, [], ◌∷◌, map}
use Rattle.std.specs.List.{list_any, filter}
use Rattle.delta.specs.Cells.{Cells, nothing, covers, inserts, normal}
use Rattle.tt_base.specs.Elements.{is_alive}
use Rattle.tt_base.specs.declared.ids.ElemId.{ElemId}
use Rattle.tt_base.specs.declared.elements.Element.{Element}
use Rattle.replica_text.specs.Ids.{same}

-- the characters of the elements that are visible
abbrev pub text_of : List Element → List ℕ
text_of elements = map (λ (e : Element). e.ch) (filter is_alive elements)

-- whether an element with the id is visible
abbrev pub is_visible : List Element → ElemId → Bool
is_visible elements id = list_any (λ (e : Element). same e.id id && e.alive) elements

-- an element of the later list: whether it was visible before, whether it is now, and its character
pub record Shown : Type 0 where
  pub was : Bool
  pub now : Bool
  pub ch : ℕ

-- what was visible is kept or deleted; what is visible now alone is inserted where it stands
abbrev pub step_of : Bool → Bool → ℕ → Cells → Cells
step_of true now ch rest = covers now 1 rest
step_of false true ch rest = inserts (ch ∷ []) rest
step_of false false ch rest = rest

abbrev pub change_of : List Shown → Cells
change_of [] = nothing
change_of (s ∷ all) = step_of s.was s.now s.ch (change_of all)

-- each element of the later list beside what it was before
abbrev pub compared : (ElemId → Bool) → List Element → List Shown
compared was [] = []
compared was (e ∷ elements) = record { was = was e.id; now = e.alive; ch = e.ch } ∷ compared was elements

-- the delta from the visible text before to that of the later list: each element that is newly visible is inserted at the gap
-- behind those visible before that precede it, and what is no longer visible is deleted
abbrev pub effect : List Element → List Element → Cells
effect before later = normal (change_of (compared (is_visible before) later))
