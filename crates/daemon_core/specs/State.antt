-- What a daemon is: its base, its files, and the connections of its editors.
use Rattle.std.specs.Prelude.{ℕ, Bool, List, [], map, Option, if◌then◌else◌}
use Rattle.std.specs.BTreeMap.{is_at}
use Rattle.std.specs.Map.{lookup}
use Rattle.std.specs.Option.{unwrap_or}
use Rattle.std.specs.Ordering.{nat_cmp}
use Rattle.editor_bridge.specs.Link.{Link}
use Rattle.file_uri.specs.Base.{BaseView}
use Rattle.daemon_core.specs.History.{History, beginning, is_path}

-- the files that an editor has open: each path, with the link to the file there, in the order of paths
abbrev pub Links : Type 0
Links = List (List ℕ × Link)

-- a daemon: the directory that its URIs are below, its files, and its connections, each number with what is open there,
-- in rising order
pub record State : Type 0 where
  pub base : BaseView
  pub history : History
  pub connections : List (ℕ × Links)

-- a daemon of this base, without files or connections
abbrev pub new_state : BaseView → State
new_state base = record { base = base; history = beginning; connections = [] }

-- the number is that of the connection
abbrev pub is_number : ℕ → ℕ → Bool
is_number n = is_at (nat_cmp n)

-- the link to the file at a path, where it is open
abbrev pub link_at : Links → List ℕ → Option Link
link_at links path = lookup (is_path path) links

-- what a connection has open
abbrev pub links_of : State → ℕ → Links
links_of s n = unwrap_or (lookup (is_number n) s.connections) []

-- the link of a connection to the file at a path
abbrev pub link_of : State → ℕ → List ℕ → Option Link
link_of s n path = link_at (links_of s n) path

-- the link to the file at a path is changed so, where it is open
abbrev pub at_path : List ℕ → (Link → Link) → Links → Links
at_path path f links = map (λ file. if is_path path file.0 then (file.0, f file.1) else file) links
