-- The edits that a delta is written as.
use Rattle.std.specs.Prelude.{ℕ, suc, ◌+◌, ◌<◌, ◌≤◌, Bool, true, false, ◌&&◌, ◌||◌, not, List, [], ◌∷◌, ◌++◌, map, reverse}
use Rattle.tt_base.specs.declared.edits.TextEdit.{TextEdit}
use Rattle.delta.specs.Cells.{Cell, Cells, is_nothing}
use Rattle.text_position.specs.Places.{IsPlace, position_at}

-- a text in the place of the characters from start up to end
pub record Change : Type 0 where
  pub start : ℕ
  pub end : ℕ
  pub text : List ℕ

-- a run with one more character in front, which ends the run where it is kept
abbrev pub longer_unless : Bool → ℕ → ℕ
longer_unless true run = 0
longer_unless false run = suc run

-- the number of characters that are deleted before the first that is kept
abbrev pub deleted_run : List Cell → ℕ
deleted_run [] = 0
deleted_run (c ∷ cells) = longer_unless c.kept (deleted_run cells)

-- the one change of a run of characters, if there is one
abbrev pub change_if : Bool → ℕ → ℕ → List ℕ → List Change
change_if true start size text = record { start = start; end = start + size; text = text } ∷ []
change_if false start size text = []

-- the changes at the gaps from one on, where it is told whether the character on the left of that gap
-- is kept: one for each gap that has a text or begins a run of deleted characters
abbrev pub changes_from : Bool → ℕ → List Cell → List ℕ → List Change
changes_from left gap [] last = change_if (not (is_nothing last)) gap 0 last
changes_from left gap (c ∷ cells) last =
    change_if (not (is_nothing c.inserted) || (left && not c.kept)) gap (deleted_run (c ∷ cells)) c.inserted
    ++ changes_from c.kept (suc gap) cells last

-- the changes of a delta, from the front of its base
abbrev pub changes_of : Cells → List Change
changes_of d = changes_from true 0 d.cells d.last

-- the change with its places as positions
abbrev pub edit_for : List ℕ → Change → TextEdit
edit_for text change = record {
  start = position_at text change.start;
  end = position_at text change.end;
  replacement = change.text;
}

-- the edits of a delta on a text, from the back of the text to its front
abbrev pub edits_of : List ℕ → Cells → List TextEdit
edits_of text d = reverse (map (edit_for text) (changes_of d))

-- an edit has a range in the text, which ends before a place, and the others are as told before its start
pub record EndsBefore (text : List ℕ) (place : ℕ) (edit : TextEdit) (Others : ℕ → Type 0) : Type 0 where
  pub start : ℕ
  pub end : ℕ
  pub start_is : IsPlace text edit.start start
  pub end_is : IsPlace text edit.end end
  pub forward : start ≤ end
  pub before : end < place
  pub others : Others start

-- the range of each edit ends before a place, and before the range of the edit ahead of it begins
abbrev pub AreApart : List ℕ → ℕ → List TextEdit → Type 0
AreApart text place [] = Unit {0}
AreApart text place (edit ∷ edits) = EndsBefore text place edit (λ start. AreApart text start edits)
