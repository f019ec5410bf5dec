-- Why a link does not take an edit, in the order of checking.
use Rattle.std.specs.Prelude.{ℕ, ◌==◌, nat_lt, length, Option, Some, None, if◌then◌else◌}
use Rattle.delta.specs.Cells.{Cells, base_length}
use Rattle.editor_bridge.specs.Link.{Link, issued, editor_text}
use Rattle.editor_bridge.specs.declared.faults.BridgeFault.{BridgeFault}
use Rattle.editor_bridge.specs.declared.faults.BridgeFault.TheVariants.{RevisionAhead, RevisionBack, LengthDiffers, Memory}

-- an editor cannot have shown more of the daemon's deltas than there are, nor fewer than it has confirmed
abbrev pub revision_fault : ℕ → Link → Option BridgeFault
revision_fault seen l =
    if nat_lt (issued l) seen
    then Some (RevisionAhead seen (issued l))
    else (if nat_lt seen l.confirmed then Some (RevisionBack seen l.confirmed) else None)

-- a delta applies to a text of its base length alone
abbrev pub length_fault : ℕ → ℕ → Option BridgeFault
length_fault delta text = if delta == text then None else Some (LengthDiffers delta text)

-- the first of two faults
abbrev pub first_fault : Option BridgeFault → Option BridgeFault → Option BridgeFault
first_fault None next = next
first_fault (Some fault) next = Some fault

-- the first fault of an edit
abbrev pub edit_fault : ℕ → Cells → Link → Option BridgeFault
edit_fault seen p l =
    first_fault (revision_fault seen l) (length_fault (base_length p) (length (editor_text seen l)))

-- the fault of the call's arguments that an error names; want of memory names none
abbrev pub fault_named : BridgeFault → Option BridgeFault
fault_named (RevisionAhead seen issued) = Some (RevisionAhead seen issued)
fault_named (RevisionBack seen confirmed) = Some (RevisionBack seen confirmed)
fault_named (LengthDiffers delta text) = Some (LengthDiffers delta text)
fault_named Memory = None
