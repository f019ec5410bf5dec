-- The value of each request of an editor (JSON-RPC 2.0, section 4).
use Rattle.std.specs.Prelude.{ℕ, Bool, true, false, List, [], ◌∷◌, codes, map}
use Rattle.serde_json.specs.Data as json
use Rattle.serde_json.specs.Data.{Data}
use Rattle.rpc_message.specs.Methods.{name}
use Rattle.rpc_message.specs.Values.{object, array, whole, text, range, edit_params, version}
use Rattle.rpc_message.specs.declared.messages.FromEditor.{FromEditor}
use Rattle.rpc_message.specs.declared.messages.FromEditor.TheVariants.{Open, Close, Edit, Cursor, Shutdown, Response}
use Rattle.rpc_message.specs.declared.methods.Method.TheVariants as called

-- the message is no request, but a response
abbrev pub is_response : FromEditor → Bool
is_response Response = true
is_response _ = false

-- the name of its method
abbrev pub method : FromEditor → List ℕ
method (Open uri content) = name called.Open
method (Close uri) = name called.Close
method (Edit uri revision edits) = name called.Edit
method (Cursor uri ranges) = name called.Cursor
method Shutdown = name called.Shutdown
method Response = []

-- its parameters
abbrev pub params : FromEditor → Data
params (Open uri content) = object ((codes "content", text content) ∷ (codes "uri", json.string uri) ∷ [])
params (Close uri) = object ((codes "uri", json.string uri) ∷ [])
params (Edit uri revision edits) = edit_params uri revision edits
params (Cursor uri ranges) = object ((codes "ranges", array (map range ranges)) ∷ (codes "uri", json.string uri) ∷ [])
params Shutdown = object []
params Response = object []

-- the value of a request with an id
abbrev pub request : ℕ → FromEditor → Data
request id message =
    object ((codes "id", whole id) ∷ version ∷ (codes "method", json.string (method message)) ∷ (codes "params", params message) ∷ [])
