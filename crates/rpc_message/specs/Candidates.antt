-- For private clauses: the one message to an editor that a value may be the value of.
use Rattle.std.specs.Prelude.{ℕ, ◌==◌, unsigned_abs, List, Option, Some, None, option_map, option_and_then, codes, if◌then◌else◌}
use Rattle.std.specs.Str.{bytes_eq}
use Rattle.serde_json.specs.Data.{Data}
use Rattle.serde_json.specs.Find.{get, as_str, as_i64, as_number}
use Rattle.rpc_message.specs.Causes.{cause_named}
use Rattle.rpc_message.specs.Forms.{◌>>=◌, bytes, whole, array, edit}
use Rattle.rpc_message.specs.Json.{member}
use Rattle.rpc_message.specs.Members.{member_named}
use Rattle.rpc_message.specs.Messages.{id_form}
use Rattle.rpc_message.specs.Methods.{name}
use Rattle.rpc_message.specs.declared.codes.TheConstants.{PARSE_ERROR, INVALID_REQUEST, UNKNOWN_METHOD, BAD_PARAMS, NOT_OPEN, ALREADY_OPEN}
use Rattle.rpc_message.specs.declared.codes.TheConstants.{BAD_URI, BAD_POSITION, BAD_REVISION, TEXT_TOO_LONG, CLASH, BACKWARD_RANGE}
use Rattle.rpc_message.specs.declared.messages.ToEditor.{ToEditor}
use Rattle.rpc_message.specs.declared.messages.ToEditor.TheVariants.{Success, Refused, Edit}
use Rattle.rpc_message.specs.declared.methods.Method.TheVariants as method
use Rattle.rpc_message.specs.declared.refusals.Refusal.{Refusal}
use Rattle.rpc_message.specs.declared.refusals.Refusal.TheVariants.{ParseError, InvalidRequest, UnknownMethod, BadParams, NotOpen, AlreadyOpen}
use Rattle.rpc_message.specs.declared.refusals.Refusal.TheVariants.{BadUri, BadPosition, BadRevision, TextTooLong, Clash, BackwardRange}

-- the refusals that have data, by it
abbrev pub bad_params : Data → Option Refusal
bad_params d = option_map BadParams (option_and_then member_named (member (codes "member") as_str d))

-- a cause, by its name
abbrev pub bad_uri : Data → Option Refusal
bad_uri d = option_map BadUri (option_and_then cause_named (member (codes "cause") as_str d))

-- the three counts of edits
abbrev pub bad_revision : Data → Option Refusal
bad_revision d = do
  confirmed ← member (codes "confirmed") whole d
  issued ← member (codes "issued") whole d
  seen ← member (codes "seen") whole d
  Some (BadRevision confirmed issued seen)

-- the bytes of both changes
abbrev pub clash : Data → Option Refusal
clash d = do
  given ← member (codes "given") bytes d
  held ← member (codes "held") bytes d
  Some (Clash given held)

-- the refusal of a code without its sign, where the error has no data
abbrev pub plain : ℕ → Option Refusal
plain code =
    if code == PARSE_ERROR then Some ParseError
    else (if code == INVALID_REQUEST then Some InvalidRequest
    else (if code == UNKNOWN_METHOD then Some UnknownMethod
    else (if code == NOT_OPEN then Some NotOpen
    else (if code == ALREADY_OPEN then Some AlreadyOpen
    else None))))

-- the same where it has some
abbrev pub with_facts : ℕ → Data → Option Refusal
with_facts code d =
    if code == BAD_PARAMS then bad_params d
    else (if code == BAD_URI then bad_uri d
    else (if code == BAD_POSITION then option_map BadPosition (member (codes "edit") whole d)
    else (if code == BAD_REVISION then bad_revision d
    else (if code == TEXT_TOO_LONG then option_map TextTooLong (member (codes "length") whole d)
    else (if code == CLASH then clash d
    else (if code == BACKWARD_RANGE then option_map BackwardRange (member (codes "edit") whole d)
    else None))))))

-- by whether the error has data
abbrev pub by_data : Option Data → ℕ → Option Refusal
by_data (Some facts) code = with_facts code facts
by_data None code = plain code

-- a code without its sign
abbrev pub code : Data → Option ℕ
code d = option_map unsigned_abs (option_and_then as_i64 (as_number d))

-- the refusal that the value of an error may be
abbrev pub refusal : Data → Option Refusal
refusal error = do
  code ← member (codes "code") code error
  by_data (get (codes "data") error) code

-- a success, by its id
abbrev pub success : Data → Option ToEditor
success d = option_map Success (member (codes "id") id_form d)

-- a refusal, by its error and the id
abbrev pub refused : Data → Data → Option ToEditor
refused error d = do
  id ← member (codes "id") id_form d
  refusal ← refusal error
  Some (Refused id refusal)

-- an edit of the daemon, by its parameters
abbrev pub edit_notice : Data → Option ToEditor
edit_notice params = do
  edits ← member (codes "delta") (array edit) params
  revision ← member (codes "revision") whole params
  uri ← member (codes "uri") as_str params
  Some (Edit uri revision edits)

-- a notice, by its method
abbrev pub notice : List ℕ → Data → Option ToEditor
notice called d = if bytes_eq called (name method.Edit) then member (codes "params") edit_notice d else None

-- a refusal where there is an error, else a success
abbrev pub reply : Option Data → Data → Option ToEditor
reply (Some error) d = refused error d
reply None d = success d

-- by the method; a reply has none
abbrev pub by_method : Option (List ℕ) → Data → Option ToEditor
by_method (Some method) d = notice method d
by_method None d = reply (get (codes "error") d) d

-- the one message that may have this value
abbrev pub candidate : Data → Option ToEditor
candidate d = by_method (member (codes "method") as_str d) d
