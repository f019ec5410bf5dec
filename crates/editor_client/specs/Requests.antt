-- The requests of an editor, and their bodies.
use Rattle.std.specs.Prelude.{◌≡◌, ℕ, ◌+◌, Bool, true, false, List, [], ◌∷◌, Option, Some, None, Ok}
use Rattle.serde_json.specs.Written.{compact_text}
use Rattle.text_position.specs.Changes.{Change, edit_for}
use Rattle.rpc_message.specs.Messages.{message_of}
use Rattle.rpc_message.specs.Requests.{request}
use Rattle.rpc_message.specs.declared.messages.FromEditor.{FromEditor}
use Rattle.rpc_message.specs.declared.messages.FromEditor.TheVariants as message
use Rattle.rpc_message.specs.declared.messages.MessageId.TheVariants.{Number}
use Rattle.editor_client.specs.Editor.{Editor, is_closed}

-- what an open asks: the text that is shown
abbrev pub open_request : Editor → FromEditor
open_request e = message.Open e.uri e.text

-- what a close asks
abbrev pub close_request : Editor → FromEditor
close_request e = message.Close e.uri

-- what is asked where a change is typed: one edit, made when so many of the daemon's were shown
abbrev pub edit_request : Change → Editor → FromEditor
edit_request change e = message.Edit e.uri e.shown (edit_for e.text change ∷ [])

-- the body of a request, which has the next id
abbrev pub body_of : FromEditor → Editor → List ℕ
body_of asked e = compact_text (request (e.requests + 1) asked)

-- a body is read as that request
abbrev pub IsNextRequest : Editor → FromEditor → List ℕ → Type 0
IsNextRequest e asked body = message_of body ≡ Ok (record { id = Some (Number (e.requests + 1)); message = asked })

-- nothing where the text is closed
abbrev pub unless_closed : Bool → List ℕ → Option (List ℕ)
unless_closed true body = None
unless_closed false body = Some body

-- what is sent where a change is typed
abbrev pub edit_body : Change → Editor → Option (List ℕ)
edit_body change e = unless_closed (is_closed e.state) (body_of (edit_request change e) e)
