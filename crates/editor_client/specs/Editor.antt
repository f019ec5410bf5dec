-- An editor of one text that keeps the protocol, and what its own steps make of it.
--
-- It changes its text at once and tells the daemon, with the number of the daemon's edits that it has shown
-- (the client of the Jupiter system: Nichols, Curtis, Dixon and Lamping, 1995; the three states and the ids
-- are the project's own). Both counts begin again with each open, and the ids of requests never do.
use Rattle.std.specs.Prelude.{ℕ, ◌+◌, ◌-◌, ◌^◌, ◌<◌, Bool, true, false, List, length, Option, Some, None}
use Rattle.delta.specs.Cells.{Cells, applied}
use Rattle.text_position.specs.Edits.{replacing}
use Rattle.text_position.specs.Changes.{Change}
use Rattle.editor_client.specs.declared.states.ClientState.{ClientState}
use Rattle.editor_client.specs.declared.states.ClientState.TheVariants.{Opening, Open, Closed}

-- an editor of the text of a URI
pub record Editor : Type 0 where
  pub uri : List ℕ
  pub text : List ℕ
  pub state : ClientState
  -- how many requests it has sent; their ids are 1, 2 and so on
  pub requests : ℕ
  -- the id of its last open, if there was one
  pub last_open : Option ℕ
  -- its own edits since then
  pub own : ℕ
  -- the daemon's edits that it has shown since then
  pub shown : ℕ

-- one more request, and one more edit of each side, can be counted in u64
pub record HasRoom (e : Editor) : Type 0 where
  pub requests : e.requests < 2 ^ 64 - 1
  pub own : e.own < 2 ^ 64 - 1
  pub shown : e.shown < 2 ^ 64 - 1

-- whether an editor has closed its text
abbrev pub is_closed : ClientState → Bool
is_closed Closed = true
is_closed Opening = false
is_closed Open = false

-- an editor before its first open
abbrev pub new_editor : List ℕ → List ℕ → Editor
new_editor uri text =
    record { uri = uri; text = text; state = Closed; requests = 0; last_open = None; own = 0; shown = 0 }

-- it asks for its text
abbrev pub opened : Editor → Editor
opened e =
    record e { state = Opening; requests = e.requests + 1; last_open = Some (e.requests + 1); own = 0; shown = 0 }

-- it closes its text
abbrev pub closed : Editor → Editor
closed e = record e { state = Closed; requests = e.requests + 1 }

-- its connection has ended
abbrev pub lost : Editor → Editor
lost e = record e { state = Closed }

-- the change that puts a text in the place of so many characters
abbrev pub change_at : ℕ → ℕ → List ℕ → Change
change_at place gone text = record { start = place; end = place + gone; text = text }

-- what a change is as a delta of a text
abbrev pub delta_of : Change → List ℕ → Cells
delta_of change text = replacing (length text) change.start change.end change.text

-- its text changes, and it has told the daemon, or has closed the text
abbrev pub typed_where : Bool → Cells → Editor → Editor
typed_where true d e = record e { text = applied d e.text }
typed_where false d e = record e { text = applied d e.text; requests = e.requests + 1; own = e.own + 1 }

-- a change is typed
abbrev pub typed : Change → Editor → Editor
typed change e = typed_where (is_closed e.state) (delta_of change e.text) e
