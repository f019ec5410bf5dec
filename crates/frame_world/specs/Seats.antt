-- An editor of a script as a program keeps it: the client, the bodies under way from it, and the frames under way to it.
use Rattle.std.specs.Prelude.{◌≡◌, ℕ, ◌-◌, ◌^◌, List, [], ◌∷◌, ◌++◌, option_to_list}
use Rattle.rpc_frame.specs.Stream.{StreamEnd, Reads}
use Rattle.text_position.specs.Changes.{Change}
use Rattle.editor_client.specs.Editor as step
use Rattle.editor_client.specs.Editor.{Editor}
use Rattle.editor_client.specs.Hearing.{IsHeard}
use Rattle.editor_client.specs.Requests.{open_request, close_request, body_of, edit_body}
use Rattle.editor_client.specs.declared.notes.HeardNote.{HeardNote}

pub record Seat : Type 0 where
  pub client : Editor
  pub up : List (List ℕ)
  pub down : List (List ℕ)

-- its connection begins, with a text that it opens; with what it sends for that
abbrev pub opened : Seat → Seat
opened x = record x { client = step.opened x.client; up = x.up ++ body_of (open_request x.client) x.client ∷ [] }

-- it closes its text
abbrev pub closed : Seat → Seat
closed x = record x { client = step.closed x.client; up = x.up ++ body_of (close_request x.client) x.client ∷ [] }

-- a change is typed, and sent where the text is not closed
abbrev pub typed : Change → Seat → Seat
typed change x =
    record x { client = step.typed change x.client; up = x.up ++ option_to_list (edit_body change x.client) }

-- its connection ends, with all that is under way
abbrev pub lost : Seat → Seat
lost x = record { client = step.lost x.client; up = []; down = [] }

-- the first frame under way is read as a body, which comes to the client, and this is told of it
pub record IsDelivered (before : Seat) (note : HeardNote) (after : Seat) : Type 0 where
  pub frame : List ℕ
  pub rest : List (List ℕ)
  pub first : before.down ≡ frame ∷ rest
  pub body : List ℕ
  -- what is behind the body, which is nothing in a frame that a daemon has written
  pub left : StreamEnd
  pub reads : Reads (2 ^ 64 - 1) frame (body ∷ []) left
  pub heard : IsHeard body before.client note after.client
  pub up : after.up ≡ before.up
  pub down : after.down ≡ rest
