-- What each step of the plain machine keeps, under the daemon's text.
use Rattle.std.specs.Prelude.{◌≡◌, ◌≢◌, ◌⊎◌, ℕ, ◌+◌, ◌<◌, false, List, [], ◌∷◌, ◌++◌, length, Option, Some}
use Rattle.delta.specs.Cells.{Cells}
use Rattle.transform.specs.Carried.{IsChain, applied_all}
use Rattle.bridge_world.specs.Lists.{Each, HasOne}
use Rattle.bridge_world.specs.Plain.{Opening, is_closed, Kind, Failed, New, OpenDone, Mark, Opens, Sent, Link, Editor, edits_of}

-- the kind of an error
abbrev pub IsError : Kind → Type 0
IsError (Failed cause) = Unit {0}
IsError kind = ⊥

-- an error of session s
abbrev pub IsFailure : ℕ → Mark → Type 0
IsFailure s m = IsError m.kind × (m.session ≡ s)

-- an error of this session is under way to the editor
abbrev pub HasFailed : ℕ → List Mark → Type 0
HasFailed s wire = HasOne (IsFailure s) wire

-- all is of session s
abbrev pub AllOf : ℕ → List Mark → Type 0
AllOf s wire = Each (λ (m : Mark). m.session ≡ s) wire

-- all is of sessions before s
abbrev pub AllBefore : ℕ → List Mark → Type 0
AllBefore s wire = Each (λ (m : Mark). m.session < s) wire

-- a link is there, and the mark is of its session
pub record HasLink (kept : Option Link) (m : Mark) : Type 0 where
  pub link : Link
  pub there : kept ≡ Some link
  pub same : m.session ≡ link.session

-- the editor's link is there
pub record IsLinked (e : Editor) : Type 0 where
  pub link : Link
  pub there : e.link ≡ Some link
  pub present : link.session ≡ e.session

-- an open of this session is under way to the daemon
pub record IsOpening (s : ℕ) (sent : List Sent) : Type 0 where
  pub content : List ℕ
  pub before : List Sent
  pub behind : List Sent
  pub there : sent ≡ before ++ record { session = s; message = Opens content } ∷ behind

-- the success of the open of this session is under way to the editor, behind all that is of older sessions
-- and before all else of its own
pub record IsAccepted (s : ℕ) (wire : List Mark) : Type 0 where
  pub before : List Mark
  pub behind : List Mark
  pub there : wire ≡ before ++ record { session = s; kind = OpenDone } ∷ behind
  pub older : AllBefore s before
  pub own : AllOf s behind

-- 1 for what is to be shown
abbrev pub one_if_new : Kind → ℕ
one_if_new New = 1
one_if_new kind = 0

-- how many marks are to be shown
abbrev pub count_new : List Mark → ℕ
count_new [] = 0
count_new (m ∷ wire) = one_if_new m.kind + count_new wire

-- a text and deltas that apply to it one after the other give a text
pub record Give (base : List ℕ) (deltas : List Cells) (text : List ℕ) : Type 0 where
  pub chain : IsChain (length base) deltas
  pub gives : applied_all deltas base ≡ text

-- what holds of an editor and its link, where view is the daemon's text
pub record Facts (view : List ℕ) (e : Editor) : Type 0 where
  -- the link's text and what is not shown give the daemon's text
  pub daemons_text : (l : Link) → e.link ≡ Some l → Give l.base l.down view
  -- the link's text and what is under way give the editor's text
  pub editors_text : (h : IsLinked e) → is_closed e.state ≡ false → Give h.link.base (edits_of e.session e.sent) e.text
  -- what is under way applies to the link's text, whatever the editor has done since
  pub up_applies : (l : Link) → e.link ≡ Some l → IsChain (length l.base) (edits_of l.session e.sent)
  -- the text that an open under way carries and the edits behind it give the editor's text
  pub opening_text : (h : IsOpening e.session e.sent) → is_closed e.state ≡ false → Give h.content (edits_of e.session h.behind) e.text
  -- and those edits apply to that text, whatever the editor has done since
  pub opening_applies : (s : ℕ) (h : IsOpening s e.sent) → IsChain (length h.content) (edits_of s h.behind)
  -- where nothing is under way up, each delta that is not shown is under way to be shown
  pub shown_next : (h : IsLinked e) → is_closed e.state ≡ false → edits_of e.session e.sent ≡ [] → count_new e.wire ≡ length h.link.down
  -- what is under way to be shown is of the link that is there
  pub new_linked : Each (λ (m : Mark). m.kind ≡ New → HasLink e.link m) e.wire
  -- nothing that is to be shown comes before the success of the open of its session
  pub done_first : (before behind : List Mark) (s : ℕ) → e.wire ≡ before ++ record { session = s; kind = OpenDone } ∷ behind
      → Each (λ (m : Mark). m.kind ≡ New → m.session ≢ s) before
  -- while an editor waits for its open, the success comes before all else of its session
  pub accepted : IsLinked e → e.state ≡ Opening → IsAccepted e.session e.wire
  -- no editor is forgotten
  pub known : is_closed e.state ≡ false → IsOpening e.session e.sent ⊎ (IsLinked e ⊎ HasFailed e.session e.wire)
