-- The same on the list that is kept: a new element stands behind its parent and all that are greater there.
use Rattle.std.specs.Prelude.{◌≡◌, ℕ, true, false, List, [], ◌∷◌, Option, Some, None, if◌then◌else◌}
use Rattle.tt_base.specs.declared.ids.ElemId.{ElemId}
use Rattle.tt_base.specs.declared.elements.Element.{Element}
use Rattle.replica_text.specs.Ids.{less, same, next_id}

-- behind the greater ones
abbrev pub passing : Element → List Element → List Element
passing new [] = new ∷ []
passing new (e ∷ elements) = if less new.id e.id then e ∷ passing new elements else new ∷ (e ∷ elements)

-- behind the parent, and there behind the greater ones
abbrev pub behind : ElemId → Element → List Element → List Element
behind parent new [] = []
behind parent new (e ∷ elements) = if same parent e.id then e ∷ passing new elements else e ∷ behind parent new elements

abbrev pub placed : Option ElemId → Element → List Element → List Element
placed None new elements = passing new elements
placed (Some parent) new elements = behind parent new elements

-- the first of these is not greater
abbrev pub Stops : ElemId → List Element → Type 0
Stops id [] = Unit {0}
Stops id (e ∷ elements) = less id e.id ≡ false

-- the elements of a run of characters
abbrev pub run_of : ElemId → List ℕ → List Element
run_of first [] = []
run_of first (ch ∷ text) = record { id = first; ch = ch; alive = true } ∷ run_of (next_id first) text
