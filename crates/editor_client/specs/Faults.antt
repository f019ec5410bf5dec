-- Why a change is not typed.
use Rattle.std.specs.Prelude.{ℕ, nat_le, Option, Some, None, if◌then◌else◌}
use Rattle.editor_client.specs.declared.faults.TypeFault.{TypeFault}
use Rattle.editor_client.specs.declared.faults.TypeFault.TheVariants.{OutOfRange, Memory}

-- a change ends within its text
abbrev pub range_fault : ℕ → ℕ → Option TypeFault
range_fault end length = if nat_le end length then None else Some (OutOfRange length)

-- the fault of the call's arguments that an error names; want of memory names none
abbrev pub fault_named : TypeFault → Option TypeFault
fault_named (OutOfRange length) = Some (OutOfRange length)
fault_named Memory = None
