-- Why a message is refused, and what a refusal does to the link at its path.
use Rattle.std.specs.Prelude.{ℕ, Bool, nat_le, ◌||◌, List, Option, Some, None, Result, Ok, Err}
use Rattle.delta.specs.Cells.{Cells}
use Rattle.editor_bridge.specs.Faults.{revision_fault}
use Rattle.editor_bridge.specs.Link.{Link, issued, editor_text}
use Rattle.editor_bridge.specs.declared.faults.BridgeFault.{BridgeFault}
use Rattle.file_uri.specs.PathOf.{path_of}
use Rattle.file_uri.specs.declared.faults.UriFault.{UriFault}
use Rattle.file_uri.specs.declared.faults.UriFault.TheVariants as uri
use Rattle.tt_base.specs.declared.edits.TextEdit.{TextEdit}
use Rattle.tt_base.specs.declared.paths.PathFault.{PathFault}
use Rattle.tt_base.specs.declared.paths.PathFault.TheVariants as path
use Rattle.text_position.specs.Edits.{delta_of_edits}
use Rattle.text_position.specs.declared.faults.EditsFault.{EditsFault}
use Rattle.text_position.specs.declared.faults.EditsFault.TheVariants as edits
use Rattle.rpc_message.specs.declared.causes.UriCause.{UriCause}
use Rattle.rpc_message.specs.declared.causes.UriCause.TheVariants as cause
use Rattle.rpc_message.specs.declared.refusals.Refusal.{Refusal}
use Rattle.rpc_message.specs.declared.refusals.Refusal.TheVariants.{NotOpen, AlreadyOpen, BadUri, BadPosition, BadRevision, BackwardRange}
use Rattle.daemon_core.specs.declared.TheConstants.{LONGEST_TEXT}
use Rattle.daemon_core.specs.Outcome.{LinkEvent, Stays, Gone}
use Rattle.daemon_core.specs.State.{State}

-- a refusal, and what it does to the links of the message's connection
pub record Refused : Type 0 where
  pub refusal : Refusal
  pub own : LinkEvent

-- a step of a message, which may be refused
abbrev pub Step : Type 0 → Type 0
Step T = Result T Refused

-- the next step, unless this one was refused
infixl 10 ◌>>=◌
abbrev pub ◌>>=◌ : {A B : Type 0} → Step A → (A → Step B) → Step B
(Ok x) >>= next = next x
(Err refused) >>= next = Err refused

-- refused, and no link changes
abbrev pub refused : {A : Type 0} → Refusal → Step A
refused refusal = Err (record { refusal = refusal; own = Stays })

-- refused, and the link at the path ends
abbrev pub closed : {A : Type 0} → List ℕ → Refusal → Step A
closed path refusal = Err (record { refusal = refusal; own = Gone path })

-- the name of a rule of paths among the causes
abbrev pub path_cause : PathFault → UriCause
path_cause path.TooLong = cause.TooLong
path_cause path.NulByte = cause.NulByte
path_cause path.Absolute = cause.Absolute
path_cause path.Empty = cause.Empty
path_cause path.DotPart = cause.DotPart
path_cause path.Reserved = cause.Reserved
path_cause path.TooDeep = cause.TooDeep
path_cause path.Memory = cause.Empty

-- the name of a rule of URIs among the causes
abbrev pub uri_cause : UriFault → UriCause
uri_cause uri.NotAUri = cause.NotAUri
uri_cause uri.NotFile = cause.NotFile
uri_cause uri.HasHost = cause.HasHost
uri_cause uri.OutsideBase = cause.OutsideBase
uri_cause uri.NotUtf8 = cause.NotUtf8
uri_cause (uri.BadPath fault) = path_cause fault
uri_cause uri.NotABase = cause.NotAUri
uri_cause uri.Memory = cause.NotAUri

-- a path, or that the URI is bad
abbrev pub unless_bad_uri : Result (List ℕ) UriFault → Step (List ℕ)
unless_bad_uri (Ok path) = Ok path
unless_bad_uri (Err fault) = refused (BadUri (uri_cause fault))

-- the path that a URI names
abbrev pub path_named : State → List ℕ → Step (List ℕ)
path_named s uri = unless_bad_uri (path_of s.base uri)

-- the link, which must be there
abbrev pub open_link : Option Link → Step Link
open_link (Some link) = Ok link
open_link None = refused NotOpen

-- the link must not be there
abbrev pub no_link : Option Link → Step Unit
no_link None = Ok tt
no_link (Some link) = refused AlreadyOpen

-- the text that an editor's edit is for, unless the link has a fault to find with its revision
abbrev pub unless_bad_revision : Option BridgeFault → List ℕ → ℕ → Link → Step (List ℕ)
unless_bad_revision None path seen link = Ok (editor_text seen link)
unless_bad_revision (Some fault) path seen link =
    closed path (BadRevision link.confirmed (issued link) seen)

-- the text that the editor shows, which has shown so many of the daemon's deltas
abbrev pub text_shown : List ℕ → ℕ → Link → Step (List ℕ)
text_shown path seen link = unless_bad_revision (revision_fault seen link) path seen link

-- how a fault of a list of edits is answered
abbrev pub edits_refusal : EditsFault → Refusal
edits_refusal (edits.BadPosition edit) = BadPosition edit
edits_refusal (edits.BackwardRange edit) = BackwardRange edit
edits_refusal edits.Memory = BadPosition 0

-- a delta, unless the edits have a fault
abbrev pub unless_bad_edits : List ℕ → Result Cells EditsFault → Step Cells
unless_bad_edits path (Ok d) = Ok d
unless_bad_edits path (Err fault) = closed path (edits_refusal fault)

-- the delta of the edits of a message on a text
abbrev pub good_edits : List ℕ → List ℕ → List TextEdit → Step Cells
good_edits path text edits = unless_bad_edits path (delta_of_edits text edits)

-- a text may be this long after a change of one that was so long: it is within the limit, or the change has not made it longer
abbrev pub may_grow : ℕ → ℕ → Bool
may_grow before after = nat_le after LONGEST_TEXT || nat_le after before
