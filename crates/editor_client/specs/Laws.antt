-- What holds of the definitions of an editor.
use Rattle.std.specs.Prelude.{◌≡◌, ℕ, ◌≤◌, List, [], ◌∷◌, length, Some, Ok}
use Rattle.delta.specs.Cells.{Cells, base_length, IsNormal}
use Rattle.text_position.specs.Edits.{delta_of_edits}
use Rattle.text_position.specs.Changes.{Change, edit_for, edits_of}
use Rattle.editor_client.specs.Editor.{Editor, delta_of}
use Rattle.editor_client.specs.Hearing.{to_show}
use Rattle.editor_client.specs.declared.states.ClientState.TheVariants.{Open}

-- the edit that is sent for a change has the delta that the change is, on the text before it
abbrev pub SentEditIsChange : Type 0
SentEditIsChange =
    (text : List ℕ) (change : Change) → change.start ≤ change.end → change.end ≤ length text
    → delta_of_edits text (edit_for text change ∷ []) ≡ Ok (delta_of change text)

-- a delta that the daemon has written on the text that an open editor shows, with the editor's own count as
-- its revision, is what the editor shows
abbrev pub WrittenIsShown : Type 0
WrittenIsShown =
    (e : Editor) (d : Cells) → e.state ≡ Open → IsNormal d → base_length d ≡ length e.text
    → to_show e.uri e.own (edits_of e.text d) e ≡ Some d
