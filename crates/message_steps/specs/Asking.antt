-- Where a message is asked for: a desk, whose view may show more texts than are at hand in code.
use Rattle.std.specs.Prelude.{◌≡◌, ℕ, Bool, true, false, List, Option, Some, None, Result, Ok, Err}
use Rattle.editor_bridge.specs.Link.{Link}
use Rattle.file_uri.specs.Base.{BaseView}
use Rattle.file_uri.specs.PathOf.{path_of}
use Rattle.file_uri.specs.declared.faults.UriFault.{UriFault}
use Rattle.rpc_message.specs.declared.messages.FromEditor.{FromEditor}
use Rattle.rpc_message.specs.declared.messages.FromEditor.TheVariants.{Open, Cursor, Shutdown, Response}
use Rattle.daemon_core.specs.History.{History, view_at}
use Rattle.daemon_core.specs.State.{Links, link_at}
use Rattle.daemon_events.specs.Wanting.{Desk}

-- the text that a daemon shows at each path, where there is a file
abbrev pub View : Type 0
View = List ℕ → Option (List ℕ)

-- a desk of these parts
abbrev pub desk : BaseView → View → Links → Desk
desk base view links = record { base = base; view = view; links = links }

-- the path that is named, if one is
abbrev pub if_named : Result (List ℕ) UriFault → Option (List ℕ)
if_named (Ok path) = Some path
if_named (Err fault) = None

-- the path of a file that a message opens, if it names one: beside the texts of links it is all that a message needs the text of
abbrev pub path_to_open : BaseView → FromEditor → Option (List ℕ)
path_to_open base (Open uri content) = if_named (path_of base uri)
path_to_open base message = None

-- the files at hand have what the view shows at a path: its text, or no file
abbrev pub Shows : History → View → List ℕ → Type 0
Shows files view path = view path ≡ view_at files path

-- the files at hand have what the view shows at the path that is to be opened, and wherever a link leads
pub record IsEnough (files : History) (view : View) (links : Links) (to_open : Option (List ℕ)) : Type 0 where
  pub opened : (path : List ℕ) → to_open ≡ Some path → Shows files view path
  pub linked : (path : List ℕ) (link : Link) → link_at links path ≡ Some link → Shows files view path

-- no file is named by the message, so that it is judged without memory
abbrev pub names_no_file : FromEditor → Bool
names_no_file (Cursor uri ranges) = true
names_no_file Shutdown = true
names_no_file Response = true
names_no_file message = false
