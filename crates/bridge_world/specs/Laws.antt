-- What holds after every list of moves, as statements.
use Rattle.std.specs.Prelude.{◌≡◌, ◌↔◌, ℕ, true, List, [], ◌∷◌, length, Option, Some, None}
use Rattle.std.specs.Option.{option_map}
use Rattle.delta.specs.Cells.{Cells, base_length}
use Rattle.transform.specs.Carried.{past_list, list_past}
use Rattle.editor_bridge.specs.Link.{with_edit, carried_edit}
use Rattle.editor_bridge.specs.Faults.{edit_fault}
use Rattle.std.specs.Prelude.{slice_get}
use Rattle.bridge_world.specs.Plain as P
use Rattle.bridge_world.specs.Plain.{Open, New}
use Rattle.bridge_world.specs.Counted as N
use Rattle.bridge_world.specs.Counted.{Held, Frame, plain_link, down_of}
use Rattle.bridge_world.specs.Room.{Room, Move, plain_step, counted_step, run, empty_room, plain_room}
use Rattle.bridge_world.specs.Facts.{Facts}

-- these moves lead from a text without editors to a room, whose editor of this number is this one
pub record Leads {A : Type 0} (step : Move → Room A → Option (Room A)) (w : Room A) (n : ℕ) (e : A) : Type 0 where
  pub moves : List Move
  pub start : List ℕ
  pub ran : run step moves (empty_room start) ≡ Some w
  pub found : slice_get w.editors n ≡ Some e

-- counts, queue and numbered frames do, move by move, what the machine without them does
abbrev pub BridgeRefinesLink : Type 0
BridgeRefinesLink =
    (moves : List Move) (view : List ℕ) → run plain_step moves (empty_room view) ≡ option_map plain_room (run counted_step moves (empty_room view))

-- an edit that comes to its link is refused neither for its revision nor for its length; it is carried past
-- what the plain link has not shown, and what is left is what the plain link then has not shown
pub record TakesAlike (h : Held) (seen : ℕ) (p : Cells) : Type 0 where
  pub fits : edit_fault seen p h.link ≡ None
  pub carried : carried_edit seen p h.link ≡ past_list p (plain_link h).down
  pub again : (with_edit seen p h.link).unconfirmed ≡ list_past p (plain_link h).down

-- the same of the first message of each editor of each room that is reached, where it is an edit
abbrev pub TakesAreAlike : Type 0
TakesAreAlike =
    (w : Room N.Editor) (n : ℕ) (e : N.Editor) (h : Held) (m : N.Sent) (seen : ℕ) (p : Cells) (sent : List N.Sent) → Leads counted_step w n e → e.link ≡ Some h → e.sent ≡ m ∷ sent
    → m.message ≡ N.Edits seen p → TakesAlike h seen p

-- a frame that comes to an open editor is the next that it is to show: it is not overtaken, nothing of the
-- editor is under way, and it is the first delta that the link has not shown, which is for the editor's text
pub record IsNext (e : N.Editor) (f : Frame) : Type 0 where
  pub new : f.mark.kind ≡ New
  pub nothing_up : e.sent ≡ []
  pub held : Held
  pub linked : e.link ≡ Some held
  pub others : List Cells
  pub next : down_of held ≡ f.delta ∷ others
  pub fits : base_length f.delta ≡ length e.text

-- a delta of the daemon that comes to an open editor has the editor's own count as its revision exactly
-- where it is the next that it is to show
abbrev pub ShowsAreAlike : Type 0
ShowsAreAlike =
    (w : Room N.Editor) (n : ℕ) (e : N.Editor) (f : Frame) (wire : List Frame) → Leads counted_step w n e → e.state ≡ Open → e.wire ≡ f ∷ wire
    → N.carries_delta f.mark.kind ≡ true → (f.revision ≡ e.own) ↔ IsNext e f

-- the facts hold of each editor of each room that is reached
abbrev pub FactsHold : Type 0
FactsHold = (w : Room P.Editor) (n : ℕ) (e : P.Editor) → Leads plain_step w n e → Facts w.view e

-- an open editor with nothing under way shows the daemon's text
abbrev pub QuietShowsView : Type 0
QuietShowsView =
    (w : Room P.Editor) (n : ℕ) (e : P.Editor) → Leads plain_step w n e → e.state ≡ Open → e.sent ≡ [] → e.wire ≡ [] → e.text ≡ w.view
