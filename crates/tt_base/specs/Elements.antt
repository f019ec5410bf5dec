-- Lists of the elements of a text: characters, each with an id of its own, visible or deleted.
use Rattle.std.specs.Prelude.{◌≡◌, ℕ, zero, suc, Bool, false, List, [], ◌∷◌, Option, option_map, slice_get}
use Rattle.std.specs.Coded.{×_prop, Unit-prop}
use mathlib.Core.HLevel.{⊥_prop, Π_prop}
use Rattle.tt_base.specs.declared.ids.ElemId.{ElemId}
use Rattle.tt_base.specs.declared.elements.Element.{Element}

-- whether the element is visible
abbrev pub is_alive : Element → Bool
is_alive e = e.alive

-- the id at a place, where there is an element
abbrev pub id_at : List Element → ℕ → Option ElemId
id_at elements place = option_map (λ (e : Element). e.id) (slice_get elements place)

-- no element has the id
abbrev pub IsNew : ElemId → List Element → Type 0
IsNew id [] = Unit {0}
IsNew id (e ∷ elements) = (e.id ≡ id → ⊥) × IsNew id elements

-- no two elements have one id
abbrev pub AreDistinct : List Element → Type 0
AreDistinct [] = Unit {0}
AreDistinct (e ∷ elements) = IsNew e.id elements × AreDistinct elements

-- the element as a tombstone (the term of replicated growable arrays, Roh and others, 2011)
abbrev pub dead : Element → Element
dead e = record e { alive = false }

-- the elements, of which the one at a place is a tombstone now
abbrev pub killed : List Element → ℕ → List Element
killed [] place = []
killed (e ∷ elements) zero = dead e ∷ elements
killed (e ∷ elements) (suc place) = e ∷ killed elements place

-- that an id is new is known in one way only
pub IsNew-prop : (id : ElemId) (elements : List Element) → IsProp (IsNew id elements)
IsNew-prop id [] = Unit-prop
IsNew-prop id (e ∷ elements) = ×_prop (Π_prop (λ _. ⊥_prop)) (IsNew-prop id elements)

-- that ids are distinct is known in one way only
pub AreDistinct-prop : (elements : List Element) → IsProp (AreDistinct elements)
AreDistinct-prop [] = Unit-prop
AreDistinct-prop (e ∷ elements) = ×_prop (IsNew-prop e.id elements) (AreDistinct-prop elements)
