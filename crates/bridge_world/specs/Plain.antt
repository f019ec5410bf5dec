-- One editor of one text and its daemon's link, without any number: the plain machine of a connection.
--
-- An editor changes its text at once and tells the daemon. The daemon carries each delta past those that
-- the editor had not shown, and sends these again. An editor shows a delta of the daemon only where
-- nothing of its own is under way (the client and the server of the Jupiter system: Nichols, Curtis, Dixon
-- and Lamping, 1995; sessions, refusals and their order are the project's own).
use Rattle.std.specs.Prelude.{ℕ, ◌+◌, ◌==◌, Bool, true, false, List, [], ◌∷◌, ◌++◌, map, Option, Some, None}
use Rattle.delta.specs.Cells.{Cells, applied, changes_nothing}
use Rattle.transform.specs.Carried.{past_list, list_past}
use Rattle.editor_bridge.specs.Link.{first_deltas}
use Rattle.bridge_world.specs.Lists.{unless}

-- whether an editor has asked for its text, has been answered, or has closed it
pub data State : Type 0 where
  Opening : State
  Open : State
  Closed : State

-- why a message is refused: the link is missing, there is one already, the edit is not for a text that the
-- link knows, or a reason that the link does not know, by its error code without the sign
pub data Cause : Type 0 where
  NotOpen : Cause
  AlreadyOpen : Cause
  BadRevision : Cause
  Other : (code : ℕ) → Cause

-- what is under way to an editor: the success of its open, that of another message, an error, a delta of
-- the daemon that it is to show, or one that was overtaken and is sent again behind
pub data Kind : Type 0 where
  OpenDone : Kind
  Done : Kind
  Failed : (cause : Cause) → Kind
  New : Kind
  Old : Kind

-- each is of a session: editors count their opens
pub record Mark : Type 0 where
  pub session : ℕ
  pub kind : Kind

-- what the daemon makes of a message that its link could take
pub data Verdict : Type 0 where
  Accepts : Verdict
  Refuses : (cause : Cause) → Verdict

-- what is under way to the daemon
pub data Message : Type 0 where
  Opens : (content : List ℕ) → Message
  Edits : (delta : Cells) → Message
  Closes : Message

pub record Sent : Type 0 where
  pub session : ℕ
  pub message : Message

-- the daemon's end: the editor's text without its edits under way, and the daemon's deltas that the editor
-- has not shown, which lead from there to the daemon's text
pub record Link : Type 0 where
  pub session : ℕ
  pub base : List ℕ
  pub down : List Cells

pub record Editor : Type 0 where
  pub text : List ℕ
  pub state : State
  pub session : ℕ
  pub sent : List Sent
  pub wire : List Mark
  pub link : Option Link

-- whether the editor has closed its text
abbrev pub is_closed : State → Bool
is_closed Closed = true
is_closed Open = false
is_closed Opening = false

-- What an editor does.

-- a message of the present session is sent
abbrev pub with_sent : Message → Editor → Editor
with_sent m e = record e { sent = e.sent ++ record { session = e.session; message = m } ∷ [] }

-- it types p, where it has closed the text or not
abbrev pub typed_where : Bool → Cells → Editor → Editor
typed_where true p e = record e { text = applied p e.text }
typed_where false p e = with_sent (Edits p) (record e { text = applied p e.text })

-- it types p, and tells the daemon unless it has closed the text
abbrev pub typed : Cells → Editor → Editor
typed p e = typed_where (is_closed e.state) p e

-- it asks for its text, in a new session
abbrev pub opened : Editor → Editor
opened e = with_sent (Opens e.text) (record e { state = Opening; session = e.session + 1 })

-- it closes its text
abbrev pub closed : Editor → Editor
closed e = with_sent Closes (record e { state = Closed })

-- its connection ends, with all that is under way
abbrev pub lost : Editor → Editor
lost e = record e { state = Closed; sent = []; wire = []; link = None }

-- What the daemon does.

-- a mark of session s
abbrev pub mark : ℕ → Kind → Mark
mark s kind = record { session = s; kind = kind }

-- what was to be shown is overtaken, and all else stays
abbrev pub aged : Kind → Kind
aged New = Old
aged kind = kind

-- the same of a mark. Each mark that is to be shown is of the link that is there
abbrev pub aged_mark : Mark → Mark
aged_mark m = record m { kind = aged m.kind }

-- a mark for each delta that is to be shown
abbrev pub news : ℕ → List Cells → List Mark
news s down = map (λ d. mark s New) down

-- a link gets a delta of the daemon
abbrev pub pushed_on : Option Link → Cells → Editor → Editor
pushed_on None d e = e
pushed_on (Some l) d e =
    record e { link = Some (record l { down = l.down ++ d ∷ [] }); wire = e.wire ++ mark l.session New ∷ [] }

-- the daemon's text has changed by d, otherwise than by this editor, and the editor is told
abbrev pub pushed : Cells → Editor → Editor
pushed d e = pushed_on e.link d e

-- the same, where a change that changes nothing is not told
abbrev pub told : Cells → Editor → Editor
told d e = unless (changes_nothing d) (pushed d) e

-- a message has an answer
abbrev pub answered : ℕ → Kind → Editor → Editor
answered s kind e = record e { wire = e.wire ++ mark s kind ∷ [] }

-- a message has an answer, and the link ends
abbrev pub ended : ℕ → Kind → Editor → Editor
ended s kind e = record e { link = None; wire = map aged_mark e.wire ++ mark s kind ∷ [] }

-- an open of this session is taken
abbrev pub linked : ℕ → List ℕ → List Cells → Editor → Editor
linked s content first e =
    record e {
      link = Some (record { session = s; base = content; down = first });
      wire = e.wire ++ mark s OpenDone ∷ news s first;
    }

-- an edit is taken: it is carried past what its editor had not shown, and this past the edit
abbrev pub took : ℕ → Cells → Link → Editor → Editor
took s p l e =
    let left = list_past p l.down in
    record e {
      link = Some (record l { base = applied p l.base; down = left });
      wire = map aged_mark e.wire ++ mark s Done ∷ news l.session left;
    }

-- a message of session s is handled, where view is the daemon's text afterwards
abbrev pub handled_by : Message → Option Link → Verdict → List ℕ → ℕ → Editor → Editor
handled_by (Opens content) None Accepts view s e = linked s content (first_deltas content view) e
handled_by (Opens content) None (Refuses cause) view s e = answered s (Failed cause) e
handled_by (Opens content) (Some l) verdict view s e = answered s (Failed AlreadyOpen) e
handled_by (Edits p) None verdict view s e = answered s (Failed NotOpen) e
handled_by (Edits p) (Some l) Accepts view s e = took s p l e
handled_by (Edits p) (Some l) (Refuses cause) view s e = ended s (Failed cause) e
handled_by Closes None verdict view s e = answered s (Failed NotOpen) e
handled_by Closes (Some l) verdict view s e = ended s Done e

-- the first of these messages is handled
abbrev pub handled_first : List Sent → Verdict → List ℕ → Editor → Editor
handled_first [] verdict view e = e
handled_first (m ∷ sent) verdict view e =
    handled_by m.message e.link verdict view m.session (record e { sent = sent })

-- the first message under way is handled
abbrev pub handled : Verdict → List ℕ → Editor → Editor
handled verdict view e = handled_first e.sent verdict view e

-- what the first message changes in the daemon's text, if it changes anything

-- what a message changes
abbrev pub effect_by : Message → Option Link → Verdict → Option Cells
effect_by (Edits p) (Some l) Accepts = Some (past_list p l.down)
effect_by m link verdict = None

-- what the first of these messages changes
abbrev pub effect_of_first : List Sent → Option Link → Verdict → Option Cells
effect_of_first [] link verdict = None
effect_of_first (m ∷ sent) link verdict = effect_by m.message link verdict

-- what the editor's first message changes
abbrev pub effect : Verdict → Editor → Option Cells
effect verdict e = effect_of_first e.sent e.link verdict

-- What comes to an editor.

-- with the delta of a message, if it is an edit of the session
abbrev pub edit_of : Message → Bool → List Cells → List Cells
edit_of (Edits p) true edits = p ∷ edits
edit_of m present edits = edits

-- the editor's deltas under way in a session
abbrev pub edits_of : ℕ → List Sent → List Cells
edits_of s [] = []
edits_of s (m ∷ sent) = edit_of m.message (m.session == s) (edits_of s sent)

-- the first of these deltas is shown
abbrev pub shown_first : List Cells → Link → Editor → Editor
shown_first [] l e = e
shown_first (d ∷ down) l e =
    record e { text = applied d e.text; link = Some (record l { base = applied d l.base; down = down }) }

-- the same where no edit is under way
abbrev pub shown_where : List Cells → Link → Editor → Editor
shown_where [] l e = shown_first l.down l e
shown_where (p ∷ up) l e = e

-- it shows the first delta that it has not shown, where nothing of its own is under way
abbrev pub shown_on : Option Link → Editor → Editor
shown_on None e = e
shown_on (Some l) e = shown_where (edits_of l.session e.sent) l e

-- a mark comes, of the present session or of an older one
abbrev pub heard : Kind → State → Bool → Editor → Editor
heard New Open true e = shown_on e.link e
heard OpenDone Opening true e = record e { state = Open }
heard (Failed cause) state true e = record e { state = Closed }
heard kind state present e = e

-- the first of these marks comes
abbrev pub delivered_first : List Mark → Editor → Editor
delivered_first [] e = e
delivered_first (m ∷ wire) e = heard m.kind e.state (m.session == e.session) (record e { wire = wire })

-- the first mark under way comes
abbrev pub delivered : Editor → Editor
delivered e = delivered_first e.wire e
