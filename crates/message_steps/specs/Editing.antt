-- The part of an edit that is judged at its link.
use Rattle.std.specs.Prelude.{ℕ, List, Ok}
use Rattle.editor_bridge.specs.Link.{Link, carried_edit}
use Rattle.tt_base.specs.declared.edits.TextEdit.{TextEdit}
use Rattle.daemon_core.specs.Outcome.{Taken, Gone}
use Rattle.daemon_core.specs.Refusing.{Step, ◌>>=◌, text_shown, good_edits}
use Rattle.daemon_events.specs.Wanting.{Desk, Wanted, text_on, unless_long, changing}

-- what an edit asks for that comes by a link to the file at a path
abbrev pub edit_on : Desk → List ℕ → ℕ → List TextEdit → Link → Step Wanted
edit_on desk path seen edits link = do
  text ← text_shown path seen link
  edit ← good_edits path text edits
  d ← unless_long (text_on desk path) (carried_edit seen edit link) (Gone path)
  Ok (changing path d (Taken path seen edit) (Gone path))
