-- What a message of an editor asks for, judged by the links of its connection and the texts that the daemon shows, with its refusals in
-- their order. That two changes have one name is found only when a change is made, and is judged behind all others.
use Rattle.std.specs.Prelude.{ℕ, Bool, true, false, List, [], length, Option, Some, None, Ok, Err, if◌then◌else◌}
use Rattle.std.specs.Option.{unwrap_or}
use Rattle.delta.specs.Cells.{Cells, applied, inserting}
use Rattle.editor_bridge.specs.Link.{carried_edit, first_deltas}
use Rattle.file_uri.specs.Base.{BaseView}
use Rattle.file_uri.specs.PathOf.{path_of}
use Rattle.rpc_message.specs.declared.messages.FromEditor.{FromEditor}
use Rattle.rpc_message.specs.declared.messages.FromEditor.TheVariants.{Open, Close, Edit, Cursor, Shutdown, Response}
use Rattle.rpc_message.specs.declared.refusals.Refusal.TheVariants.{TextTooLong}
use Rattle.tt_base.specs.declared.edits.TextEdit.{TextEdit}
use Rattle.daemon_core.specs.Outcome.{Answer, Silence, Success, LinkEvent, Stays, Opened, Taken, Gone, Effect}
use Rattle.daemon_core.specs.Refusing.{Step, ◌>>=◌, unless_bad_uri, open_link, no_link, text_shown, good_edits, may_grow}
use Rattle.daemon_core.specs.State.{Links, link_at}

-- what a daemon shows an editor of: its base, the text at each path where there is a file, and what the editor has open
pub record Desk : Type 0 where
  pub base : BaseView
  pub view : List ℕ → Option (List ℕ)
  pub links : Links

-- a file that is absent is read as the empty text
abbrev pub text_on : Desk → List ℕ → List ℕ
text_on desk path = unwrap_or (desk.view path) []

-- what is asked for
pub record Wanted : Type 0 where
  pub answer : Answer
  -- what it does to the links of its own connection
  pub own : LinkEvent
  -- the change of a text that it makes
  pub change : Option Effect
  -- what becomes of the link where the change cannot be made
  pub if_refused : LinkEvent
  -- the path that an editor has opened by it
  pub opens : Option (List ℕ)
  -- the daemon is to stop
  pub shuts_down : Bool

-- nothing is asked for but an answer
abbrev pub asks : Answer → Wanted
asks answer = record { answer = answer; own = Stays; change = None; if_refused = Stays; opens = None; shuts_down = false }

-- the path that a URI names
abbrev pub path_named : Desk → List ℕ → Step (List ℕ)
path_named desk uri = unless_bad_uri (path_of desk.base uri)

-- the delta of a text, unless it would make it too long; what a refusal does to the link is told with it
abbrev pub unless_long : List ℕ → Cells → LinkEvent → Step Cells
unless_long before d if_refused =
    if may_grow (length before) (length (applied d before)) then Ok d
    else Err (record { refusal = TextTooLong (length (applied d before)); own = if_refused })

-- a change of the text at a path
abbrev pub changing : List ℕ → Cells → LinkEvent → LinkEvent → Wanted
changing path d own if_refused =
    record (asks Success) { own = own; change = Some (record { path = path; delta = d }); if_refused = if_refused }

-- a file is opened by the text that it has; where it is absent, one change makes it from the content
abbrev pub opening : List ℕ → List ℕ → Option (List ℕ) → Step Wanted
opening path content (Some view) =
    Ok (record (asks Success) { own = Opened path content (first_deltas content view); opens = Some path })
opening path content None = do
  d ← unless_long [] (inserting content) Stays
  Ok (record (changing path d (Opened path content []) Stays) { opens = Some path })

-- `open`: BadUri, AlreadyOpen, TextTooLong
abbrev pub on_open : Desk → List ℕ → List ℕ → Step Wanted
on_open desk uri content = do
  path ← path_named desk uri
  free ← no_link (link_at desk.links path)
  opening path content (desk.view path)

-- `edit`: BadUri, NotOpen; and BadRevision, BadPosition or BackwardRange, TextTooLong, which end the link
abbrev pub on_edit : Desk → List ℕ → ℕ → List TextEdit → Step Wanted
on_edit desk uri seen edits = do
  path ← path_named desk uri
  link ← open_link (link_at desk.links path)
  text ← text_shown path seen link
  edit ← good_edits path text edits
  d ← unless_long (text_on desk path) (carried_edit seen edit link) (Gone path)
  Ok (changing path d (Taken path seen edit) (Gone path))

-- `close`: BadUri, NotOpen
abbrev pub on_close : Desk → List ℕ → Step Wanted
on_close desk uri = do
  path ← path_named desk uri
  link ← open_link (link_at desk.links path)
  Ok (record (asks Success) { own = Gone path })

-- what a message asks for, or why it is refused; a cursor is read and changes nothing yet
abbrev pub wanted : Desk → FromEditor → Step Wanted
wanted desk (Open uri content) = on_open desk uri content
wanted desk (Close uri) = on_close desk uri
wanted desk (Edit uri revision edits) = on_edit desk uri revision edits
wanted desk (Cursor uri ranges) = Ok (asks Success)
wanted desk Shutdown = Ok (record (asks Success) { shuts_down = true })
wanted desk Response = Ok (asks Silence)
