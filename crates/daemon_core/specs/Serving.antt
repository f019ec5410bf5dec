-- What a daemon makes of each message of an editor, with its refusals in their order.
use Rattle.std.specs.Prelude.{ℕ, List, [], length, Option, Some, None, Ok, Err, true, if◌then◌else◌}
use Rattle.delta.specs.Cells.{Cells, applied, inserting}
use Rattle.editor_bridge.specs.Link.{carried_edit, first_deltas}
use Rattle.rpc_message.specs.declared.messages.FromEditor.{FromEditor}
use Rattle.rpc_message.specs.declared.messages.FromEditor.TheVariants.{Open, Close, Edit, Cursor, Shutdown, Response}
use Rattle.rpc_message.specs.declared.refusals.Refusal.TheVariants.{TextTooLong}
use Rattle.tt_base.specs.declared.edits.TextEdit.{TextEdit}
use Rattle.daemon_core.specs.History.{view_at, text_at, made}
use Rattle.daemon_core.specs.Outcome.{LinkEvent, Stays, Opened, Taken, Gone, Silence, Success, Refuses, Outcome, answers, effects_of}
use Rattle.daemon_core.specs.Refusing.{Step, ◌>>=◌, path_named, open_link, no_link, text_shown, good_edits, may_grow}
use Rattle.daemon_core.specs.State.{State, link_of}

-- one change of the text at a path: it is made, answered, and told to all other links
abbrev pub with_change : State → List ℕ → Cells → LinkEvent → Outcome
with_change s path d own =
    record (answers s Success) { history = made s.history path d; own = own; effects = effects_of path d }

-- the same, unless the text would be too long; what a refusal does to the link is told with it
abbrev pub changed : State → List ℕ → Cells → LinkEvent → LinkEvent → Step Outcome
changed s path d own if_refused =
    let before = text_at s.history path in
    let after = applied d before in
    if may_grow (length before) (length after) then Ok (with_change s path d own)
    else Err (record { refusal = TextTooLong (length after); own = if_refused })

-- a file is opened by the text that it has; where it is absent, one change makes it from the content
abbrev pub opening : State → List ℕ → List ℕ → Option (List ℕ) → Step Outcome
opening s path content (Some view) =
    Ok (record (answers s Success) { own = Opened path content (first_deltas content view) })
opening s path content None = changed s path (inserting content) (Opened path content []) Stays

-- `open`: BadUri, AlreadyOpen, TextTooLong
abbrev pub on_open : State → ℕ → List ℕ → List ℕ → Step Outcome
on_open s n uri content = do
  path ← path_named s uri
  free ← no_link (link_of s n path)
  opening s path content (view_at s.history path)

-- `edit`: BadUri, NotOpen; and BadRevision, BadPosition or BackwardRange, TextTooLong, which end the link
abbrev pub on_edit : State → ℕ → List ℕ → ℕ → List TextEdit → Step Outcome
on_edit s n uri seen edits = do
  path ← path_named s uri
  link ← open_link (link_of s n path)
  text ← text_shown path seen link
  edit ← good_edits path text edits
  changed s path (carried_edit seen edit link) (Taken path seen edit) (Gone path)

-- `close`: BadUri, NotOpen
abbrev pub on_close : State → ℕ → List ℕ → Step Outcome
on_close s n uri = do
  path ← path_named s uri
  link ← open_link (link_of s n path)
  Ok (record (answers s Success) { own = Gone path })

-- what a message comes to, or why it is refused; a cursor is read and changes nothing yet
abbrev pub on_message : State → ℕ → FromEditor → Step Outcome
on_message s n (Open uri content) = on_open s n uri content
on_message s n (Close uri) = on_close s n uri
on_message s n (Edit uri revision edits) = on_edit s n uri revision edits
on_message s n (Cursor uri ranges) = Ok (answers s Success)
on_message s n Shutdown = Ok (record (answers s Success) { shuts_down = true })
on_message s n Response = Ok (answers s Silence)

-- a refusal is an outcome too
abbrev pub or_refusal : State → Step Outcome → Outcome
or_refusal s (Ok outcome) = outcome
or_refusal s (Err refused) = record (answers s (Refuses refused.refusal)) { own = refused.own }
