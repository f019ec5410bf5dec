-- What the steps of an editor and its link ask for, and their parts, in the contracts of functions.
use Rattle.std.specs.Prelude.{◌≡◌, ℕ, ◌-◌, ◌^◌, ◌==◌, ◌<◌, nat_lt, Bool, true, false, ◌&&◌, List, [], ◌∷◌, length, Option, Some, None}
use Rattle.delta.specs.Cells.{Cells, base_length}
use Rattle.editor_bridge.specs.Link.{issued, daemon_length}
use Rattle.editor_bridge.specs.Faults.{edit_fault}
use Rattle.bridge_world.specs.Plain.{State, Opening, Open, Closed, Kind, OpenDone, Done, Failed, New, Old, Verdict}
use Rattle.bridge_world.specs.Counted.{Message, Edits, Sent, Frame, Held, Editor, carries_delta, effect_by}

-- What comes to an editor.

-- whether an editor shows what comes from the daemon
abbrev pub is_open : State → Bool
is_open Open = true
is_open Opening = false
is_open Closed = false

-- whether an editor shows a frame: it is open, and the frame has its own count as revision
abbrev pub shows : Frame → Editor → Bool
shows f e = carries_delta f.mark.kind && (is_open e.state && (f.revision == e.own))

-- the open of the present session was taken
abbrev pub admitted : State → State
admitted Opening = Open
admitted Open = Open
admitted Closed = Closed

-- something has come that is not shown, of the present session or of an older one
abbrev pub state_after : Kind → State → Bool → State
state_after kind state false = state
state_after OpenDone state true = admitted state
state_after (Failed cause) state true = Closed
state_after Done state true = state
state_after New state true = state
state_after Old state true = state

-- a frame that is shown applies to the editor's text
abbrev pub FrameApplies : Editor → Frame → Type 0
FrameApplies e f = shows f e ≡ true → base_length f.delta ≡ length e.text

-- the same of the first of these frames
abbrev pub FirstApplies : Editor → List Frame → Type 0
FirstApplies e [] = Unit {0}
FirstApplies e (f ∷ wire) = FrameApplies e f

-- What comes to the daemon.

-- the link refuses this message neither for its revision nor for its length
abbrev pub CanTake : Message → Option Held → Type 0
CanTake (Edits seen p) (Some h) = edit_fault seen p h.link ≡ None
CanTake m link = Unit {0}

-- the same of the first of these messages
abbrev pub CanTakeFirst : List Sent → Option Held → Type 0
CanTakeFirst [] link = Unit {0}
CanTakeFirst (m ∷ sent) link = CanTake m.message link

-- what the first of these messages changes in the daemon's text, where the link finds no fault
abbrev pub first_effect : List Sent → Option Held → Verdict → Option Cells
first_effect [] link verdict = None
first_effect (m ∷ sent) link verdict = effect_by m.message link verdict

-- a delta is for the daemon's text of this link
abbrev pub IsForLink : Cells → Option Held → Type 0
IsForLink d None = Unit {0}
IsForLink d (Some h) = base_length d ≡ daemon_length h.link

-- Counts.

-- one more can be counted in u64
abbrev pub goes_on : ℕ → Bool
goes_on n = nat_lt n (2 ^ 64 - 1)

-- one more delta of each side can be counted
abbrev pub link_has_room : Held → Bool
link_has_room h = goes_on (issued h.link) && (goes_on h.link.taken && goes_on h.seen)

abbrev pub held_has_room : Option Held → Bool
held_has_room None = true
held_has_room (Some h) = link_has_room h

-- one more open too, and one more delta that is typed or shown
abbrev pub has_room : Editor → Bool
has_room e = goes_on e.session && (goes_on e.own && (goes_on e.shown && held_has_room e.link))

-- the same as facts
pub record LinkHasRoom (h : Held) : Type 0 where
  pub issued : issued h.link < 2 ^ 64 - 1
  pub taken : h.link.taken < 2 ^ 64 - 1
  pub seen : h.seen < 2 ^ 64 - 1

abbrev pub HeldHasRoom : Option Held → Type 0
HeldHasRoom None = Unit {0}
HeldHasRoom (Some h) = LinkHasRoom h

pub record HasRoom (e : Editor) : Type 0 where
  pub session : e.session < 2 ^ 64 - 1
  pub own : e.own < 2 ^ 64 - 1
  pub shown : e.shown < 2 ^ 64 - 1
  pub link : HeldHasRoom e.link
