-- Why a move is not made in a room.
use Rattle.std.specs.Prelude.{ℕ, ◌==◌, Bool, true, false, List, length, Option, Some, None, if◌then◌else◌}
use Rattle.std.specs.List.{list_all}
use Rattle.delta.specs.Cells.{Cells, base_length}
use Rattle.bridge_world.specs.Counted.{Editor}
use Rattle.bridge_world.specs.Room.{Room, empty_room}
use Rattle.bridge_world.specs.Steps.{has_room}
use Rattle.bridge_world.specs.declared.faults.MoveFault.{MoveFault}
use Rattle.bridge_world.specs.declared.faults.MoveFault.TheVariants.{NoEditor, LengthDiffers, NotClosed, Closed, Memory}

-- the fault of a move by this editor of a room, which may not be there
abbrev pub fault_at : (Editor → Option MoveFault) → ℕ → Option Editor → Option MoveFault
fault_at fault count None = Some (NoEditor count)
fault_at fault count (Some e) = fault e

-- no fault but that the editor is not there
abbrev pub no_fault : Editor → Option MoveFault
no_fault e = None

-- a delta applies to a text of its base length alone
abbrev pub length_fault : Cells → List ℕ → Option MoveFault
length_fault d text =
    if base_length d == length text then None else Some (LengthDiffers (base_length d) (length text))

-- an editor asks for its text where it has closed it
abbrev pub open_fault : Bool → Option MoveFault
open_fault true = None
open_fault false = Some NotClosed

-- and closes it where it has not
abbrev pub close_fault : Bool → Option MoveFault
close_fault true = Some Closed
close_fault false = None

-- the fault of the call's arguments that an error names; want of memory names none
abbrev pub fault_named : MoveFault → Option MoveFault
fault_named (NoEditor count) = Some (NoEditor count)
fault_named (LengthDiffers delta text) = Some (LengthDiffers delta text)
fault_named NotClosed = Some NotClosed
fault_named Closed = Some Closed
fault_named Memory = None

-- Want of memory in a move that changes more than one editor ends all connections: the room has its text and
-- no editor. Any other fault leaves it as it was.
abbrev pub left_by : MoveFault → Room Editor → Room Editor
left_by Memory w = empty_room w.view
left_by fault w = w

-- one more of everything can be counted in u64
abbrev pub all_have_room : List Editor → Bool
all_have_room editors = list_all has_room editors
