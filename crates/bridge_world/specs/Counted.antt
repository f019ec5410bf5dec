-- The same connection as daemon and editor keep it: with the counts that their revisions are, the daemon's
-- deltas that are shown and not yet confirmed, and frames that carry numbers and deltas.
--
-- Two things stand here for the account alone, and no step decides by them: how many deltas of a link are
-- shown (`seen`), and whether what is under way was overtaken (`Old` or `New`). That an answer is of the
-- present session is what an editor tells from the ids of its requests.
use Rattle.std.specs.Prelude.{ℕ, ◌+◌, ◌==◌, Bool, true, false, List, [], ◌∷◌, ◌++◌, map, Option, Some, None}
use Rattle.std.specs.Option.{option_map}
use Rattle.delta.specs.Cells.{Cells, applied, nothing, changes_nothing}
use Rattle.editor_bridge.specs.Link.{Link, new_link, editor_text, unshown, with_pushed, with_edit, carried_edit, first_deltas}
use Rattle.editor_bridge.specs.Faults.{edit_fault}
use Rattle.editor_bridge.specs.declared.faults.BridgeFault.{BridgeFault}
use Rattle.bridge_world.specs.Lists.{unless}
use Rattle.bridge_world.specs.Plain as P
use Rattle.bridge_world.specs.Plain.{State, Opening, Open, Closed, is_closed, NotOpen, AlreadyOpen, BadRevision, Kind, OpenDone, Done, Failed, New, Old, aged, aged_mark, Mark}
use Rattle.bridge_world.specs.Plain.{mark, Verdict, Accepts, Refuses}

-- an edit says how many of the daemon's deltas its editor had shown
pub data Message : Type 0 where
  Opens : (content : List ℕ) → Message
  Edits : (seen : ℕ) → (delta : Cells) → Message
  Closes : Message

pub record Sent : Type 0 where
  pub session : ℕ
  pub message : Message

-- a frame on its way to the editor; an answer has neither a number nor a delta
pub record Frame : Type 0 where
  pub mark : Mark
  pub revision : ℕ
  pub delta : Cells

-- the daemon's link, with its session and how many of its deltas the editor has shown
pub record Held : Type 0 where
  pub session : ℕ
  pub seen : ℕ
  pub link : Link

-- an editor: own counts its deltas of this session, and shown those of the daemon that it has shown in it
pub record Editor : Type 0 where
  pub text : List ℕ
  pub state : State
  pub session : ℕ
  pub own : ℕ
  pub shown : ℕ
  pub sent : List Sent
  pub wire : List Frame
  pub link : Option Held

-- What is left without the numbers.

-- a message without its number
abbrev pub plain_message : Message → P.Message
plain_message (Opens content) = P.Opens content
plain_message (Edits seen p) = P.Edits p
plain_message Closes = P.Closes

-- the same with its session
abbrev pub plain_sent : Sent → P.Sent
plain_sent m = record { session = m.session; message = plain_message m.message }

-- what is under way without numbers and deltas
abbrev pub marks : List Frame → List Mark
marks wire = map (λ (f : Frame). f.mark) wire

-- the text that a link has come to: the editor's after all that it has shown
abbrev pub base_of : Held → List ℕ
base_of h = editor_text h.seen h.link

-- what the editor has not shown
abbrev pub down_of : Held → List Cells
down_of h = unshown h.seen h.link

-- the link without its counts
abbrev pub plain_link : Held → P.Link
plain_link h = record { session = h.session; base = base_of h; down = down_of h }

-- the editor and its link without counts
abbrev pub plain_of : Editor → P.Editor
plain_of e =
    record {
      text = e.text;
      state = e.state;
      session = e.session;
      sent = map plain_sent e.sent;
      wire = marks e.wire;
      link = option_map plain_link e.link;
    }

-- What an editor does.

-- a message of the present session is sent
abbrev pub with_sent : Message → Editor → Editor
with_sent m e = record e { sent = e.sent ++ record { session = e.session; message = m } ∷ [] }

-- it types p, where it has closed the text or not
abbrev pub typed_where : Bool → Cells → Editor → Editor
typed_where true p e = record e { text = applied p e.text }
typed_where false p e = with_sent (Edits e.shown p) (record e { text = applied p e.text; own = e.own + 1 })

-- it types p
abbrev pub typed : Cells → Editor → Editor
typed p e = typed_where (is_closed e.state) p e

-- it opens its text: both counts begin again
abbrev pub opened : Editor → Editor
opened e = with_sent (Opens e.text) (record e { state = Opening; session = e.session + 1; own = 0; shown = 0 })

-- it closes its text
abbrev pub closed : Editor → Editor
closed e = with_sent Closes (record e { state = Closed })

-- its connection ends
abbrev pub lost : Editor → Editor
lost e = record e { state = Closed; sent = []; wire = []; link = None }

-- What the daemon does.

-- an answer of session s
abbrev pub answer : ℕ → Kind → Frame
answer s kind = record { mark = mark s kind; revision = 0; delta = nothing }

-- a delta that is to be shown, with its revision
abbrev pub new_frame : ℕ → ℕ → Cells → Frame
new_frame s revision d = record { mark = mark s New; revision = revision; delta = d }

-- what was to be shown is overtaken; its number stays
abbrev pub aged_frame : Frame → Frame
aged_frame f = record f { mark = aged_mark f.mark }

-- a link gets a delta of the daemon
abbrev pub pushed_on : Option Held → Cells → Editor → Editor
pushed_on None d e = e
pushed_on (Some h) d e =
    record e {
      link = Some (record h { link = with_pushed d h.link });
      wire = e.wire ++ new_frame h.session h.link.taken d ∷ [];
    }

-- the editor's link gets it
abbrev pub pushed : Cells → Editor → Editor
pushed d e = pushed_on e.link d e

-- the same, unless it changes nothing
abbrev pub told : Cells → Editor → Editor
told d e = unless (changes_nothing d) (pushed d) e

-- a message has an answer
abbrev pub answered : ℕ → Kind → Editor → Editor
answered s kind e = record e { wire = e.wire ++ answer s kind ∷ [] }

-- a message has an answer, and the link ends
abbrev pub ended : ℕ → Kind → Editor → Editor
ended s kind e = record e { link = None; wire = map aged_frame e.wire ++ answer s kind ∷ [] }

-- an open of session s is taken
abbrev pub linked : ℕ → List ℕ → List Cells → Editor → Editor
linked s content first e =
    record e {
      link = Some (record { session = s; seen = 0; link = record (new_link content) { unconfirmed = first } });
      wire = e.wire ++ answer s OpenDone ∷ map (new_frame s 0) first;
    }

-- an edit is taken, and what is left is sent again with the new revision
abbrev pub took : ℕ → ℕ → Cells → Held → Editor → Editor
took s seen p h e =
    let l = with_edit seen p h.link in
    record e {
      link = Some (record h { link = l });
      wire = map aged_frame e.wire ++ answer s Done ∷ map (new_frame h.session l.taken) l.unconfirmed;
    }

-- a message of session s is handled, where view is the daemon's text afterwards
abbrev pub handled_by : Message → Option Held → Verdict → List ℕ → ℕ → Editor → Editor
handled_by (Opens content) None Accepts view s e = linked s content (first_deltas content view) e
handled_by (Opens content) None (Refuses cause) view s e = answered s (Failed cause) e
handled_by (Opens content) (Some h) verdict view s e = answered s (Failed AlreadyOpen) e
handled_by (Edits seen p) None verdict view s e = answered s (Failed NotOpen) e
handled_by (Edits seen p) (Some h) Accepts view s e = took s seen p h e
handled_by (Edits seen p) (Some h) (Refuses cause) view s e = ended s (Failed cause) e
handled_by Closes None verdict view s e = answered s (Failed NotOpen) e
handled_by Closes (Some h) verdict view s e = ended s Done e

-- the first of these messages is handled
abbrev pub handled_first : List Sent → Verdict → List ℕ → Editor → Editor
handled_first [] verdict view e = e
handled_first (m ∷ sent) verdict view e =
    handled_by m.message e.link verdict view m.session (record e { sent = sent })

-- the editor's first message is handled
abbrev pub handled : Verdict → List ℕ → Editor → Editor
handled verdict view e = handled_first e.sent verdict view e

-- The daemon refuses an edit for its revision and its length too.

-- the verdict, unless the link finds a fault
abbrev pub verdict_unless : Option BridgeFault → Verdict → Verdict
verdict_unless None verdict = verdict
verdict_unless (Some fault) verdict = Refuses BadRevision

-- the verdict on a message
abbrev pub verdict_by : Verdict → Message → Option Held → Verdict
verdict_by verdict (Edits seen p) (Some h) = verdict_unless (edit_fault seen p h.link) verdict
verdict_by verdict m link = verdict

-- the verdict on the first of these messages
abbrev pub verdict_on_first : Verdict → List Sent → Option Held → Verdict
verdict_on_first verdict [] link = verdict
verdict_on_first verdict (m ∷ sent) link = verdict_by verdict m.message link

-- the verdict on the editor's first message
abbrev pub verdict_of : Verdict → Editor → Verdict
verdict_of verdict e = verdict_on_first verdict e.sent e.link

-- what a message changes in the daemon's text, if it changes anything
abbrev pub effect_by : Message → Option Held → Verdict → Option Cells
effect_by (Edits seen p) (Some h) Accepts = Some (carried_edit seen p h.link)
effect_by m link verdict = None

-- what the first of these messages changes
abbrev pub effect_of_first : List Sent → Option Held → Verdict → Option Cells
effect_of_first [] link verdict = None
effect_of_first (m ∷ sent) link verdict = effect_by m.message link (verdict_by verdict m.message link)

-- what the editor's first message changes
abbrev pub effect : Verdict → Editor → Option Cells
effect verdict e = effect_of_first e.sent e.link verdict

-- What comes to an editor.

-- whether a frame carries a delta of the daemon, and no answer
abbrev pub carries_delta : Kind → Bool
carries_delta New = true
carries_delta Old = true
carries_delta kind = false

-- one more is shown
abbrev pub with_one_shown : Held → Held
with_one_shown h = record h { seen = h.seen + 1 }

-- a delta is shown and counted, or passed over
abbrev pub shown_if : Bool → Cells → Editor → Editor
shown_if true d e =
    record e { text = applied d e.text; shown = e.shown + 1; link = option_map with_one_shown e.link }
shown_if false d e = e

-- a delta of the daemon is judged by its number alone, and an answer by what it answers
abbrev pub heard : Kind → State → Bool → Frame → Editor → Editor
heard New Open present f e = shown_if (f.revision == e.own) f.delta e
heard Old Open present f e = shown_if (f.revision == e.own) f.delta e
heard OpenDone Opening true f e = record e { state = Open }
heard (Failed cause) state true f e = record e { state = Closed }
heard kind state present f e = e

-- the first of these frames comes
abbrev pub delivered_first : List Frame → Editor → Editor
delivered_first [] e = e
delivered_first (f ∷ wire) e =
    heard f.mark.kind e.state (f.mark.session == e.session) f (record e { wire = wire })

-- the first frame under way comes
abbrev pub delivered : Editor → Editor
delivered e = delivered_first e.wire e
