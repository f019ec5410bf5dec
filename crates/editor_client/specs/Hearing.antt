-- What an editor does with a message of the daemon, and what it tells of it.
use Rattle.std.specs.Prelude.{◌≡◌, ℕ, ◌+◌, ◌==◌, nat_le, Bool, true, false, ◌&&◌, List, Option, Some, None, Result, Ok, Err, if◌then◌else◌}
use Rattle.std.specs.Str.{bytes_eq}
use Rattle.delta.specs.Cells.{Cells, applied}
use Rattle.tt_base.specs.declared.edits.TextEdit.{TextEdit}
use Rattle.text_position.specs.Edits.{delta_of_edits}
use Rattle.text_position.specs.declared.faults.EditsFault.{EditsFault}
use Rattle.rpc_message.specs.Codes.{signed_code}
use Rattle.rpc_message.specs.Replies.{IsReply}
use Rattle.rpc_message.specs.declared.messages.MessageId.{MessageId}
use Rattle.rpc_message.specs.declared.messages.MessageId.TheVariants.{Number}
use Rattle.rpc_message.specs.declared.messages.ToEditor.{ToEditor}
use Rattle.rpc_message.specs.declared.messages.ToEditor.TheVariants.{Success, Refused, Edit}
use Rattle.editor_client.specs.Editor.{Editor}
use Rattle.editor_client.specs.declared.notes.HeardNote.{HeardNote}
use Rattle.editor_client.specs.declared.notes.HeardNote.TheVariants.{Shown, Ignored, Replied, RefusedBy, Other}
use Rattle.editor_client.specs.declared.states.ClientState.{ClientState}
use Rattle.editor_client.specs.declared.states.ClientState.TheVariants.{Opening, Open, Closed}

-- Edits of the daemon.

-- whether the text is open
abbrev pub is_open : ClientState → Bool
is_open Open = true
is_open Opening = false
is_open Closed = false

-- whether an editor waits for a daemon's edit of this revision: its text is open, the daemon has taken just
-- its own edits, and the edit is of its text
abbrev pub waits_for : List ℕ → ℕ → Editor → Bool
waits_for uri revision e = is_open e.state && (revision == e.own) && bytes_eq uri e.uri

-- the delta of edits that fit a text
abbrev pub if_fitting : Result Cells EditsFault → Option Cells
if_fitting (Ok d) = Some d
if_fitting (Err fault) = None

-- the delta that an editor shows of a daemon's edit, if it shows it
abbrev pub to_show : List ℕ → ℕ → List TextEdit → Editor → Option Cells
to_show uri revision edits e =
    if waits_for uri revision e then if_fitting (delta_of_edits e.text edits) else None

-- it shows a delta and counts it, or passes over the edit
abbrev pub with_shown : Option Cells → Editor → Editor
with_shown None e = e
with_shown (Some d) e = record e { text = applied d e.text; shown = e.shown + 1 }

abbrev pub note_of_shown : Option Cells → HeardNote
note_of_shown None = Ignored
note_of_shown (Some d) = Shown

-- Answers to requests.

-- the id is that of the last open
abbrev pub is_last_open : MessageId → Option ℕ → Bool
is_last_open (Number id) (Some opening) = id == opening
is_last_open id opening = false

-- the id is that of a request which is not older than the last open
abbrev pub is_of_session : MessageId → Option ℕ → ℕ → Bool
is_of_session (Number id) (Some opening) requests = nat_le opening id && nat_le id requests
is_of_session id opening requests = false

-- the daemon has taken its open
abbrev pub admitted : ClientState → ClientState
admitted Opening = Open
admitted Open = Open
admitted Closed = Closed

-- a request with this id has succeeded
abbrev pub with_success : MessageId → Editor → Editor
with_success id e = if is_last_open id e.last_open then record e { state = admitted e.state } else e

abbrev pub note_of_success : MessageId → Editor → HeardNote
note_of_success id e = if is_last_open id e.last_open then Replied else Other

-- a request with this id was refused
abbrev pub with_refusal : MessageId → Editor → Editor
with_refusal id e = if is_of_session id e.last_open e.requests then record e { state = Closed } else e

-- The message.

-- what an editor becomes
abbrev pub heard : ToEditor → Editor → Editor
heard (Edit uri revision edits) e = with_shown (to_show uri revision edits e) e
heard (Success id) e = with_success id e
heard (Refused id refusal) e = with_refusal id e

-- what it tells of it
abbrev pub note_of : ToEditor → Editor → HeardNote
note_of (Edit uri revision edits) e = note_of_shown (to_show uri revision edits e)
note_of (Success id) e = note_of_success id e
note_of (Refused id refusal) e = RefusedBy (signed_code refusal)

-- a body is a message, of which an editor tells this and becomes that
pub record IsHeard (body : List ℕ) (before : Editor) (note : HeardNote) (after : Editor) : Type 0 where
  pub message : ToEditor
  pub reply : IsReply body message
  pub told : note ≡ note_of message before
  pub left : after ≡ heard message before
