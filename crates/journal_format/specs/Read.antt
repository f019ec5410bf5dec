-- What a reader of records returned, against what reading gives: the value, or that some field is outside its format.
use Rattle.std.specs.Prelude.{◌≡◌, Result, Ok, Err, IsOk}
use Rattle.byte_format.specs.declared.faults.Outside.{Outside}
use Rattle.byte_format.specs.declared.faults.ReadFault.{ReadFault}
use Rattle.byte_format.specs.declared.faults.ReadFault.TheVariants as read_faults
use Rattle.journal_format.specs.declared.unread.Unread.{Unread}
use Rattle.journal_format.specs.declared.unread.Unread.TheVariants as unread

-- some field is outside its format
abbrev pub IsOutside : {Y : Type 0} → Result Y Outside → Type 0
IsOutside (Ok value) = ⊥
IsOutside (Err fault) = Unit {0}

-- want of memory says nothing
abbrev pub FindsFault : {Y : Type 0} → Unread → Result Y Outside → Type 0
FindsFault unread.Memory reading = Unit {0}
FindsFault unread.Outside reading = IsOutside reading

-- the result, seen through `view`, is the value that reading gives, or reading gives none
abbrev pub Finds : {X Y : Type 0} → (X → Y) → Result X Unread → Result Y Outside → Type 0
Finds view (Ok x) reading = reading ≡ Ok (view x)
Finds view (Err fault) reading = FindsFault fault reading

-- want of memory is answered only for a value that reading gives
abbrev pub WantsFor : {Y : Type 0} → Unread → Result Y Outside → Type 0
WantsFor unread.Memory reading = IsOk reading
WantsFor unread.Outside reading = Unit {0}

-- why nothing was read, whatever the field
abbrev pub unread_for : ReadFault → Unread
unread_for read_faults.Memory = unread.Memory
unread_for (read_faults.At field) = unread.Outside
