-- A stream of frames: the bodies of its whole frames in order, and then what is left or the first fault.
use Rattle.std.specs.Prelude.{◌≡◌, ℕ, ◌+◌, ◌<◌, ◌≤◌, ◌⊎◌, List, [], ◌∷◌, ◌++◌, length, take}
use Rattle.std.specs.List.{AllZip, concat}
use Rattle.rpc_frame.specs.Header.{Field, IsHeader, lengths}
use Rattle.rpc_frame.specs.declared.faults.FrameFault.{FrameFault}
use Rattle.rpc_frame.specs.declared.faults.FrameFault.TheVariants.{BadHeader, NoLength, TwoLengths, TooLong}

-- some header part begins with these bytes and goes on after them
pub record IsHeaderBegun (bytes : List ℕ) : Type 0 where
  pub fields : List Field
  pub more : List ℕ
  pub goes_on : 0 < length more
  pub header : IsHeader fields (bytes ++ more)

-- the byte at place is the first such that no header part begins with the bytes up to and including it
pub record IsBadAt (place : ℕ) (bytes : List ℕ) : Type 0 where
  pub here : place < length bytes
  pub begun : IsHeaderBegun (take place bytes)
  pub bad : (fields : List Field) (more : List ℕ) → IsHeader fields (take (place + 1) bytes ++ more) → ⊥

-- a whole header part with these lengths, and then the rest
pub record BeginsWithHeader (bytes numbers rest : List ℕ) : Type 0 where
  pub fields : List Field
  pub header : List ℕ
  pub is_header : IsHeader fields header
  pub numbers_are : numbers ≡ lengths fields
  pub whole : bytes ≡ header ++ rest

-- a frame: a header part that gives one length, within the limit, and a body of that many bytes
pub record IsFrame (limit : ℕ) (body frame : List ℕ) : Type 0 where
  pub begins : BeginsWithHeader frame (length body ∷ []) body
  pub within : length body ≤ limit

-- a header part that gives one length, within the limit, and fewer bytes of the body than that
pub record IsBodyBegun (limit : ℕ) (bytes : List ℕ) : Type 0 where
  pub number : ℕ
  pub body : List ℕ
  pub begins : BeginsWithHeader bytes (number ∷ []) body
  pub within : number ≤ limit
  pub shorter : length body < number

-- a frame begun, in its header part or in its body
abbrev pub IsFrameBegun : ℕ → List ℕ → Type 0
IsFrameBegun limit bytes = IsHeaderBegun bytes ⊎ IsBodyBegun limit bytes

-- a whole header part that gives two lengths or more
pub record HasLengths (bytes : List ℕ) : Type 0 where
  pub first : ℕ
  pub second : ℕ
  pub others : List ℕ
  pub rest : List ℕ
  pub begins : BeginsWithHeader bytes (first ∷ second ∷ others) rest

-- a whole header part that gives this length, which is above the limit
pub record IsTooLong (limit number : ℕ) (bytes : List ℕ) : Type 0 where
  pub rest : List ℕ
  pub begins : BeginsWithHeader bytes (number ∷ []) rest
  pub above : limit < number

-- in place of a frame these bytes have this fault
abbrev pub HasFault : ℕ → FrameFault → List ℕ → Type 0
HasFault limit (BadHeader place) bytes = IsBadAt place bytes
HasFault limit NoLength bytes = (rest : List ℕ) × BeginsWithHeader bytes [] rest
HasFault limit TwoLengths bytes = HasLengths bytes
HasFault limit (TooLong number) bytes = IsTooLong limit number bytes

-- what comes after the whole frames of a stream: the bytes of a frame begun, or the first fault
pub data StreamEnd : Type 0 where
  Begun : (bytes : List ℕ) → StreamEnd
  Broken : (fault : FrameFault) → StreamEnd

-- the bytes behind the whole frames are as the end says
abbrev pub EndsAs : ℕ → StreamEnd → List ℕ → Type 0
EndsAs limit (Begun bytes) rest = (rest ≡ bytes) × IsFrameBegun limit rest
EndsAs limit (Broken fault) rest = HasFault limit fault rest

-- the stream is the frames of these bodies, and then what the end says
pub record Reads (limit : ℕ) (stream : List ℕ) (bodies : List (List ℕ)) (end : StreamEnd) : Type 0 where
  pub frames : List (List ℕ)
  pub rest : List ℕ
  pub each : AllZip (IsFrame limit) bodies frames
  pub whole : stream ≡ concat frames ++ rest
  pub ends : EndsAs limit end rest

-- a reading of the stream
pub record IsRead (limit : ℕ) (stream : List ℕ) : Type 0 where
  pub bodies : List (List ℕ)
  pub end : StreamEnd
  pub reads : Reads limit stream bodies end
