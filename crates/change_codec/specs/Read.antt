-- What `read_change` returned, against what reading the bytes gives.
use Rattle.std.specs.Prelude.{◌≡◌, ℕ, ◌+◌, Result, Ok, Err, IsOk}
use Rattle.byte_format.specs.declared.faults.Kind.{Kind}
use Rattle.byte_format.specs.declared.faults.Outside.{Outside}
use Rattle.change_codec.specs.declared.faults.BadEncoding.{BadEncoding}
use Rattle.change_codec.specs.declared.faults.BadEncoding.TheVariants.{At, Memory}

-- the field of this kind at this offset, of so many bytes in all, is the first outside the format
pub record IsFirstAt {Y : Type 0} (total place : ℕ) (kind : Kind) (reading : Result Y Outside) : Type 0 where
  pub left : ℕ
  pub ends : place + left ≡ total
  pub first : reading ≡ Err (record { kind = kind; left = left })

-- the fault is the first field outside; memory is asked for only where the bytes are read
abbrev pub IsFault : {Y : Type 0} → ℕ → BadEncoding → Result Y Outside → Type 0
IsFault total (At place kind) reading = IsFirstAt total place kind reading
IsFault total Memory reading = IsOk reading

-- the result is the value that is read, or the first field outside the format
abbrev pub Reads : {Y : Type 0} → ℕ → Result Y BadEncoding → Result Y Outside → Type 0
Reads total (Ok value) reading = reading ≡ Ok value
Reads total (Err fault) reading = IsFault total fault reading
