-- The texts of objects, with their paths.
use Rattle.std.specs.Prelude.{ℕ, Bool, false, List, [], ◌∷◌, Option, Some, None, if◌then◌else◌}
use Rattle.std.specs.List.{list_any}
use Rattle.std.specs.Map.{lookup}
use Rattle.tt_base.specs.declared.ids.ElemId.{ElemId}
use Rattle.tt_base.specs.declared.elements.Element.{Element}
use Rattle.replica_dir.specs.Ids.{is_id, is_path}
use Rattle.replica_history.specs.declared.deeds.Made.{Made}
use Rattle.replica_history.specs.declared.texts.KeptText.{KeptText}

-- each object with the path at which it was made and the elements of its text in the full order, by the order of the ids
abbrev pub TextsView : Type 0
TextsView = List (ElemId × KeptText)

-- what is kept of an object, if anything
abbrev pub kept_at : TextsView → ElemId → Option KeptText
kept_at texts object = lookup (is_id object) texts

-- what is kept of an object once these are made, each with an empty text
abbrev pub begun : List Made → ElemId → Option KeptText → Option KeptText
begun [] object kept = kept
begun (made ∷ makes) object kept =
    begun makes object (if is_id made.object object then Some (record { path = made.path; text = [] }) else kept)

-- whether it was made at the path
abbrev pub is_kept_at : List ℕ → Option KeptText → Bool
is_kept_at path None = false
is_kept_at path (Some kept) = is_path kept.path path

-- whether one of the objects stands at the path
abbrev pub is_touched : TextsView → List ElemId → List ℕ → Bool
is_touched texts objects path = list_any (λ object. is_kept_at path (kept_at texts object)) objects

abbrev pub kept_of : List ℕ → List Element → KeptText
kept_of path elements = record { path = path; text = elements }

abbrev pub elements_in : Option KeptText → List Element
elements_in None = []
elements_in (Some kept) = kept.text

-- the elements of the object that is read, and none where none is
abbrev pub elements_of_winner : TextsView → Option ElemId → List Element
elements_of_winner texts None = []
elements_of_winner texts (Some object) = elements_in (kept_at texts object)
