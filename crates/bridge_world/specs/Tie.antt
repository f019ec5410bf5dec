-- What ties the counts, the queue and the numbers of frames to the plain machine.
--
-- One relation carries it: the link, once it has taken all that is under way, stands where its editor
-- stands.
use Rattle.std.specs.Prelude.{◌≡◌, ◌⊎◌, ℕ, ◌+◌, ◌≤◌, ◌<◌, Bool, true, false, List, [], ◌∷◌, length, Option, Some, None}
use Rattle.std.specs.Option.{option_map}
use Rattle.delta.specs.Cells.{Cells, applied, base_length}
use Rattle.transform.specs.Carried.{IsChain, applied_all}
use Rattle.editor_bridge.specs.Link.{issued}
use Rattle.bridge_world.specs.Lists.{Each}
use Rattle.bridge_world.specs.Facts.{HasFailed, AllOf, AllBefore}
use Rattle.bridge_world.specs.Plain.{State, Opening, Open, Closed, is_closed, Kind, OpenDone, Failed, New, Old, Mark}
use Rattle.bridge_world.specs.Counted.{Message, Opens, Edits, Closes, Sent, Frame, Held, Editor, base_of, down_of, marks}

-- where one end stands: its text, how many of the daemon's deltas are shown, how many of the editor's made
pub record Stand : Type 0 where
  pub text : List ℕ
  pub seen : ℕ
  pub own : ℕ

abbrev pub stand_of : Held → Stand
stand_of h = record { text = base_of h; seen = h.seen; own = h.link.taken }

abbrev pub client_of : Editor → Stand
client_of e = record { text = e.text; seen = e.shown; own = e.own }

-- the session of the last open that was handled, and where its link stands, if it is there
pub record Place : Type 0 where
  pub session : ℕ
  pub stand : Option Stand

abbrev pub place : ℕ → Option Held → Place
place low link = record { session = low; stand = option_map stand_of link }

abbrev pub edited : Cells → Stand → Stand
edited p a = record { text = applied p a.text; seen = a.seen; own = a.own + 1 }

-- where a message of session s leads

abbrev pub after_message : Message → ℕ → Place → Place
after_message (Opens content) s a =
    record { session = s; stand = Some (record { text = content; seen = 0; own = 0 }) }
after_message (Edits seen p) s a = record a { stand = option_map (edited p) a.stand }
after_message Closes s a = record a { stand = None }

abbrev pub after : Sent → Place → Place
after m a = after_message m.message m.session a

abbrev pub EditFits : ℕ → Cells → Option Stand → Type 0
EditFits seen p None = Unit {0}
EditFits seen p (Some a) = (seen ≡ a.seen) × (base_length p ≡ length a.text)

-- a message is for the link as it stands: an open finds no link and is of a new session, another is of the
-- session, and an edit is for the text and the number that are there
abbrev pub MessageFits : Message → ℕ → Place → Type 0
MessageFits (Opens content) s a = (a.stand ≡ None) × (a.session < s)
MessageFits (Edits seen p) s a = (s ≡ a.session) × EditFits seen p a.stand
MessageFits Closes s a = s ≡ a.session

abbrev pub AllFit : List Sent → Place → Type 0
AllFit [] a = Unit {0}
AllFit (m ∷ sent) a = MessageFits m.message m.session a × AllFit sent (after m a)

-- where all these messages lead
abbrev pub reached : List Sent → Place → Place
reached [] a = a
reached (m ∷ sent) a = reached sent (after m a)

-- the messages lead to no link, since one of the present session was refused, and the editor will hear so
pub record IsGivenUp (target : Option Stand) (link : Option Held) (low session : ℕ) (wire : List Mark) : Type 0 where
  pub no_target : target ≡ None
  pub no_link : link ≡ None
  pub present : low ≡ session
  pub failed : HasFailed session wire

-- the messages lead to a link that stands where the editor stands
pub record IsAhead (target : Option Stand) (session : ℕ) (client : Stand) (wire : List Mark) : Type 0 where
  pub meets : target ≡ Some client
  pub no_error : HasFailed session wire → ⊥

-- where the messages lead, by whether the editor has closed the text
abbrev pub Aims : Bool → Option Stand → Option Held → ℕ → ℕ → Stand → List Mark → Type 0
Aims true target link low session client wire = target ≡ None
Aims false target link low session client wire =
    IsAhead target session client wire ⊎ IsGivenUp target link low session wire

-- The order of what is under way to the editor.

-- the kinds of an answer to an open
abbrev pub AnswersOpen : Kind → Type 0
AnswersOpen OpenDone = Unit {0}
AnswersOpen (Failed cause) = Unit {0}
AnswersOpen kind = ⊥

-- this mark is the answer to the open of this session, and all behind it is of the session
pub record AnswersFirst (s : ℕ) (m : Mark) (wire : List Mark) : Type 0 where
  pub present : m.session ≡ s
  pub answer : AnswersOpen m.kind
  pub own : AllOf s wire

-- the answer to the open of this session is under way, behind all marks of older sessions and before all
-- others of its own
abbrev pub IsAnswered : ℕ → List Mark → Type 0
IsAnswered s [] = ⊥
IsAnswered s (m ∷ wire) = ((m.session < s) × IsAnswered s wire) ⊎ AnswersFirst s m wire

abbrev pub Ordered : State → ℕ → ℕ → List Mark → Type 0
Ordered Closed low s wire = AllBefore (s + 1) wire
Ordered Open low s wire = (low ≡ s) × AllOf s wire
Ordered Opening low s wire = ((low < s) × AllBefore s wire) ⊎ ((low ≡ s) × IsAnswered s wire)

-- The numbers of what is under way to the editor.

abbrev pub NewFits : Option Held → Frame → Type 0
NewFits None f = ⊥
NewFits (Some h) f = (f.mark.session ≡ h.session) × (f.revision ≡ h.link.taken)

-- what is to be shown is of the link that is there and has its number; what was overtaken in the present
-- session has a number below the editor's own, so that the editor passes over it
pub record FrameFits (link : Option Held) (is_closed : Bool) (session own : ℕ) (f : Frame) : Type 0 where
  pub new : f.mark.kind ≡ New → NewFits link f
  pub old : f.mark.kind ≡ Old → is_closed ≡ false → f.mark.session ≡ session → f.revision < own

abbrev pub delta_if_new : Kind → Cells → List Cells → List Cells
delta_if_new New d deltas = d ∷ deltas
delta_if_new kind d deltas = deltas

-- the deltas that are to be shown
abbrev pub new_deltas : List Frame → List Cells
new_deltas [] = []
new_deltas (f ∷ wire) = delta_if_new f.mark.kind f.delta (new_deltas wire)

-- The link.

pub record LinkFits (view : List ℕ) (low : ℕ) (h : Held) : Type 0 where
  pub session : h.session ≡ low
  pub confirmed : h.link.confirmed ≤ h.seen
  pub seen : h.seen ≤ issued h.link
  pub chain : IsChain (length (base_of h)) (down_of h)
  pub leads : applied_all (down_of h) (base_of h) ≡ view

abbrev pub IfLinked : (Held → Type 0) → Option Held → Type 0
IfLinked P None = Unit {0}
IfLinked P (Some h) = P h

-- The tie: a connection with counts under the daemon's text. Where nothing is under way to the daemon, the
-- deltas that are to be shown are those that the editor has not shown; else all will be sent again.
pub record Good (view : List ℕ) (e : Editor) : Type 0 where
  pub low : ℕ
  pub link : IfLinked (LinkFits view low) e.link
  pub sent : AllFit e.sent (place low e.link)
  pub session : (reached e.sent (place low e.link)).session ≡ e.session
  pub aims : Aims (is_closed e.state) (reached e.sent (place low e.link)).stand e.link low e.session (client_of e) (marks e.wire)
  pub ordered : Ordered e.state low e.session (marks e.wire)
  pub numbers : Each (FrameFits e.link (is_closed e.state) e.session e.own) e.wire
  pub tells : e.sent ≡ [] → (h : Held) → e.link ≡ Some h → new_deltas e.wire ≡ down_of h

-- the tie of each editor of a text
abbrev pub AllGood : List ℕ → List Editor → Type 0
AllGood view editors = Each (Good view) editors
