-- What a reader holds of the frame begun, and that its place in it is right.
use Rattle.std.specs.Prelude.{◌≡◌, ℕ, ◌+◌, ◌<◌, ◌≤◌, ◌⊎◌, nat_lt, List, [], ◌∷◌, ◌++◌, length, Result, Ok, Err, if◌then◌else◌}
use Rattle.rpc_frame.specs.Scanning.{scan_over, scan_after, start, missing}
use Rattle.rpc_frame.specs.declared.begun.FrameBegun.{FrameBegun}
use Rattle.rpc_frame.specs.declared.begun.Stage.{Stage}
use Rattle.rpc_frame.specs.declared.begun.Stage.TheVariants.{Head, Body}
use Rattle.rpc_frame.specs.declared.begun.Stop.{Stop}
use Rattle.rpc_frame.specs.declared.begun.Stop.TheVariants.{Fault}
use Rattle.rpc_frame.specs.declared.faults.FrameFault.{FrameFault}
use Rattle.rpc_frame.specs.declared.faults.FrameFault.TheVariants.{BadHeader, NoLength, TwoLengths, TooLong}
use Rattle.rpc_frame.specs.declared.headers.TheConstants.{HEADER_LIMIT}
use Rattle.rpc_frame.specs.declared.headers.Place.{Place}
use Rattle.rpc_frame.specs.declared.headers.Place.TheVariants.{Whole}
use Rattle.rpc_frame.specs.declared.headers.Lengths.{Lengths}
use Rattle.rpc_frame.specs.declared.headers.Lengths.TheVariants.{NoneYet, One, Several}
use Rattle.rpc_frame.specs.declared.headers.Scan.{Scan}

-- the bytes of the frame begun
abbrev pub held_bytes : FrameBegun → List ℕ
held_bytes begun = begun.head.items ++ begun.body.items

-- the scan is that of these bytes of a header part, which goes on and has room to end
pub record IsHeadAt (scan : Scan) (head body : List ℕ) : Type 0 where
  pub no_body : body ≡ []
  pub scanned : scan ≡ scan_over start head
  pub goes_on : 0 < missing scan.place
  pub room : length head + missing scan.place ≤ HEADER_LIMIT

-- a whole header part that gives this length, and these bytes of the body, which may be whole
pub record IsBodyAt (limit number : ℕ) (head body : List ℕ) : Type 0 where
  pub scanned : scan_over start head ≡ record { place = Whole; lengths = One number }
  pub room : length head ≤ HEADER_LIMIT
  pub within : number ≤ limit
  pub few : length body ≤ number

-- the stage is that of these bytes of a header part and of a body
abbrev pub IsReachedAt : ℕ → Stage → List ℕ → List ℕ → Type 0
IsReachedAt limit (Head scan) head body = IsHeadAt scan head body
IsReachedAt limit (Body number) head body = IsBodyAt limit number head body

-- the body is not whole
abbrev pub IsShort : Stage → List ℕ → Type 0
IsShort (Head scan) body = Unit {0}
IsShort (Body number) body = length body < number

-- what is held is so, and its body may be whole
pub record IsReached (limit : ℕ) (begun : FrameBegun) : Type 0 where
  pub at : IsReachedAt limit begun.stage begun.head.items begun.body.items

-- what is held is so, and is no whole frame
pub record IsHeld (limit : ℕ) (begun : FrameBegun) : Type 0 where
  pub at : IsReachedAt limit begun.stage begun.head.items begun.body.items
  pub short : IsShort begun.stage begun.body.items

-- the stage behind a whole header part with these lengths
abbrev pub stage_behind : ℕ → Lengths → Result Stage Stop
stage_behind limit NoneYet = Err (Fault NoLength)
stage_behind limit (One number) = if nat_lt limit number then Err (Fault (TooLong number)) else Ok (Body number)
stage_behind limit Several = Err (Fault TwoLengths)

-- the stage behind a byte of a header part
abbrev pub stage_at : ℕ → Place → Lengths → Result Stage Stop
stage_at limit Whole lengths = stage_behind limit lengths
stage_at limit place lengths = Ok (Head (record { place = place; lengths = lengths }))

-- one more byte of the header part is held
pub record TakesByte (limit : ℕ) (scan : Scan) (byte : ℕ) (old new : FrameBegun) : Type 0 where
  pub head : new.head.items ≡ old.head.items ++ (byte ∷ [])
  pub body : new.body.items ≡ old.body.items
  pub stage : stage_at limit (scan_after scan byte).place (scan_after scan byte).lengths ≡ Ok new.stage
  pub short : length old.head.items + 1 + missing (scan_after scan byte).place ≤ HEADER_LIMIT

-- the byte, or the header part that it ends, has this fault
abbrev pub RefusesByte : ℕ → Scan → ℕ → FrameBegun → FrameFault → Type 0
RefusesByte limit scan byte old fault =
    ((HEADER_LIMIT < length old.head.items + 1 + missing (scan_after scan byte).place) × (fault ≡ BadHeader (length old.head.items)))
    ⊎ ((length old.head.items + 1 + missing (scan_after scan byte).place ≤ HEADER_LIMIT) × (stage_at limit (scan_after scan byte).place (scan_after scan byte).lengths ≡ Err (Fault fault)))
