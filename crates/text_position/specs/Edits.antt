-- What a list of edits does to a text, where each is judged in the text that those before it leave.
use Rattle.std.specs.Prelude.{◌≡◌, ℕ, ◌-◌, ◌+◌, ◌≤◌, true, false, nat_le, List, [], ◌∷◌, ◌++◌, length, take, drop, Option, Some, None, Result, Ok, Err, if◌then◌else◌}
use Rattle.tt_base.specs.Answers.{and_then}
use Rattle.tt_base.specs.declared.edits.TextEdit.{TextEdit}
use Rattle.delta.specs.Cells.{Cells, covers, inserts, keeping, applied}
use Rattle.delta.specs.Marks.{composed}
use Rattle.text_position.specs.Places.{IsPlace, offset_at}
use Rattle.text_position.specs.declared.faults.EditsFault.{EditsFault}
use Rattle.text_position.specs.declared.faults.EditsFault.TheVariants.{BadPosition, BackwardRange}

-- the delta on a text of some length that puts a text in the place of the characters from start up to
-- end
abbrev pub replacing : ℕ → ℕ → ℕ → List ℕ → Cells
replacing size start end text =
    covers true start (inserts text (covers false (end - start) (keeping (size - end))))

-- the characters between two places, or why they are no range
abbrev pub range_between : ℕ → Option ℕ → Option ℕ → Result (ℕ × ℕ) EditsFault
range_between index None end = Err (BadPosition index)
range_between index (Some start) None = Err (BadPosition index)
range_between index (Some start) (Some end) =
    if nat_le start end then Ok (start, end) else Err (BackwardRange index)

-- the range of the edit with some index in its list, in the text that it is for
abbrev pub range_of : ℕ → List ℕ → TextEdit → Result (ℕ × ℕ) EditsFault
range_of index text edit = range_between index (offset_at text edit.start) (offset_at text edit.end)

-- the first edit of a list is bad in the text itself, so that this can be told without any other text
abbrev pub IsBadAtOnce : List ℕ → List TextEdit → EditsFault → Type 0
IsBadAtOnce text [] fault = ⊥
IsBadAtOnce text (edit ∷ edits) fault = range_of 0 text edit ≡ Err fault

-- the delta of one edit
abbrev pub delta_of_edit : ℕ → List ℕ → TextEdit → Result Cells EditsFault
delta_of_edit index text edit =
    and_then (range_of index text edit) (λ range. Ok (replacing (length text) range.0 range.1 edit.replacement))

-- the delta so far on a text, composed with that of each further edit in turn, in the text reached
abbrev pub with_edits : ℕ → List ℕ → Cells → List TextEdit → Result Cells EditsFault
with_edits index text so_far [] = Ok so_far
with_edits index text so_far (edit ∷ edits) =
    and_then (delta_of_edit index (applied so_far text) edit) (λ d. with_edits (index + 1) text (composed so_far d) edits)

-- the delta of a list of edits
abbrev pub delta_of_edits : List ℕ → List TextEdit → Result Cells EditsFault
delta_of_edits text edits = with_edits 0 text (keeping (length text)) edits

-- one edit leads from a text to another: the characters between its places are replaced
pub record LeadsTo (text : List ℕ) (edit : TextEdit) (after : List ℕ) : Type 0 where
  pub start : ℕ
  pub end : ℕ
  pub start_is : IsPlace text edit.start start
  pub end_is : IsPlace text edit.end end
  pub forward : start ≤ end
  pub after_is : after ≡ take start text ++ (edit.replacement ++ drop end text)

-- one edit leads from a text to another, and of that the rest is told
pub record LeadsOn (text : List ℕ) (edit : TextEdit) (Rest : List ℕ → Type 0) : Type 0 where
  pub reached : List ℕ
  pub leads : LeadsTo text edit reached
  pub rest : Rest reached

-- the edits of a list lead from a text to another, one after the other
abbrev pub LeadInTurn : List ℕ → List TextEdit → List ℕ → Type 0
LeadInTurn text [] after = after ≡ text
LeadInTurn text (edit ∷ edits) after = LeadsOn text edit (λ reached. LeadInTurn reached edits after)
