-- What holds of the definitions of positions and edits.
use Rattle.std.specs.Prelude.{◌≡◌, ◌⊎◌, ℕ, ◌+◌, ◌<◌, ◌≤◌, List, ◌∷◌, ◌++◌, length, Some, Ok, Err}
use Rattle.tt_base.specs.declared.edits.Position.{Position}
use Rattle.tt_base.specs.declared.edits.TextEdit.{TextEdit}
use Rattle.delta.specs.Cells.{Cells, base_length, applied, IsNormal}
use Rattle.text_position.specs.Places.{IsPlace, offset_at, position_at}
use Rattle.text_position.specs.Edits.{delta_of_edits, LeadInTurn}
use Rattle.text_position.specs.Changes.{edits_of, AreApart}
use Rattle.text_position.specs.declared.faults.EditsFault.{EditsFault}
use Rattle.text_position.specs.declared.faults.EditsFault.TheVariants.{BadPosition, BackwardRange}

-- the place that is computed meets the definition
abbrev pub ComputedIsPlace : Type 0
ComputedIsPlace = (text : List ℕ) (p : Position) (offset : ℕ) → offset_at text p ≡ Some offset → IsPlace text p offset

-- what meets the definition is computed
abbrev pub PlaceIsComputed : Type 0
PlaceIsComputed = (text : List ℕ) (p : Position) (offset : ℕ) → IsPlace text p offset → offset_at text p ≡ Some offset

-- a place has the position that is computed
abbrev pub PlaceHasPosition : Type 0
PlaceHasPosition = (text : List ℕ) (offset : ℕ) → offset ≤ length text → offset_at text (position_at text offset) ≡ Some offset

-- a position with a place is that of the place
abbrev pub PositionComesBack : Type 0
PositionComesBack =
    (text : List ℕ) (p : Position) (offset : ℕ) → offset_at text p ≡ Some offset → (offset ≤ length text) × (position_at text offset ≡ p)

-- the delta of a list of edits leads where the edits lead one after the other
abbrev pub DeltaLeadsAsEdits : Type 0
DeltaLeadsAsEdits =
    (text : List ℕ) (edits : List TextEdit) (d : Cells) → delta_of_edits text edits ≡ Ok d → LeadInTurn text edits (applied d text)

-- an edit starts behind its end
pub record IsBackward (text : List ℕ) (edit : TextEdit) : Type 0 where
  pub start : ℕ
  pub end : ℕ
  pub start_is : IsPlace text edit.start start
  pub end_is : IsPlace text edit.end end
  pub backward : end < start

-- the text has no such start, or no such end
abbrev pub HasNoPlace : List ℕ → TextEdit → Type 0
HasNoPlace text edit = ((offset : ℕ) → ¬ IsPlace text edit.start offset) ⊎ ((offset : ℕ) → ¬ IsPlace text edit.end offset)

-- an edit and a text that it is for, and the cause for which it has no delta
abbrev pub IsNoRange : List ℕ → TextEdit → ℕ → EditsFault → Type 0
IsNoRange text edit index fault =
    ((fault ≡ BadPosition index) × HasNoPlace text edit) ⊎ ((fault ≡ BackwardRange index) × IsBackward text edit)

-- a list of edits is refused for an edit of it: those before have a delta, and in the text that they
-- lead to it has no range
pub record IsRefusedAt (text : List ℕ) (edits : List TextEdit) (fault : EditsFault) : Type 0 where
  pub before : List TextEdit
  pub edit : TextEdit
  pub behind : List TextEdit
  pub cut : edits ≡ before ++ edit ∷ behind
  pub so_far : Cells
  pub before_is_good : delta_of_edits text before ≡ Ok so_far
  pub no_range : IsNoRange (applied so_far text) edit (length before) fault

-- a refusal tells the first edit that is bad, and why
abbrev pub RefusalTellsFirst : Type 0
RefusalTellsFirst =
    (text : List ℕ) (edits : List TextEdit) (fault : EditsFault) → delta_of_edits text edits ≡ Err fault → IsRefusedAt text edits fault

-- a list of edits with a bad edit behind good ones is refused for it
abbrev pub FirstBadIsRefused : Type 0
FirstBadIsRefused =
    (text : List ℕ) (edits : List TextEdit) (fault : EditsFault) → IsRefusedAt text edits fault → delta_of_edits text edits ≡ Err fault

-- the edits of a normal delta have that delta
abbrev pub DeltaComesBack : Type 0
DeltaComesBack =
    (text : List ℕ) (d : Cells) → IsNormal d → base_length d ≡ length text → delta_of_edits text (edits_of text d) ≡ Ok d

-- their ranges are in the text and apart
abbrev pub EditsAreApart : Type 0
EditsAreApart =
    (text : List ℕ) (d : Cells) → IsNormal d → base_length d ≡ length text → AreApart text (length text + 1) (edits_of text d)
