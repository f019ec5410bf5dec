-- The part of an edit that is judged at its link.
use Rattle.std.specs.Prelude.{ℕ, List}
use Rattle.editor_bridge.specs.Link.{Link, carried_edit}
use Rattle.tt_base.specs.declared.edits.TextEdit.{TextEdit}
use Rattle.daemon_core.specs.Outcome.{Taken, Gone, Outcome}
use Rattle.daemon_core.specs.Refusing.{Step, ◌>>=◌, text_shown, good_edits}
use Rattle.daemon_core.specs.Serving.{changed}
use Rattle.daemon_core.specs.State.{State}

-- an edit that comes by a link to the file at a path
abbrev pub edit_on : State → List ℕ → ℕ → List TextEdit → Link → Step Outcome
edit_on s path seen edits link = do
  text ← text_shown path seen link
  edit ← good_edits path text edits
  changed s path (carried_edit seen edit link) (Taken path seen edit) (Gone path)
