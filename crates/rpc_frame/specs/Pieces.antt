-- What the pieces of a stream say together.
use Rattle.std.specs.Prelude.{◌≡◌, ℕ, List, Option, Some, None}
use Rattle.rpc_frame.specs.Faults.{answer_of}
use Rattle.rpc_frame.specs.Stream.{StreamEnd, Begun, Broken, Reads}
use Rattle.rpc_frame.specs.declared.faults.FrameEnd.{FrameEnd}
use Rattle.rpc_frame.specs.declared.faults.FrameFault.{FrameFault}

-- the end of the stream has this fault, or none
abbrev pub EndsWith : Option FrameFault → StreamEnd → Type 0
EndsWith None (Begun bytes) = Unit {0}
EndsWith (Some fault) (Broken met) = met ≡ fault
EndsWith None (Broken met) = ⊥
EndsWith (Some fault) (Begun bytes) = ⊥

-- the stream is these bodies and then this fault, or a frame begun
pub record HasRead (limit : ℕ) (stream : List ℕ) (bodies : List (List ℕ)) (fault : Option FrameFault) : Type 0 where
  pub end : StreamEnd
  pub reads : Reads limit stream bodies end
  pub ends : EndsWith fault end

-- a call ended with this fault
pub record EndedWith (fault : Option FrameFault) (end : FrameEnd) : Type 0 where
  pub met : FrameFault
  pub told : fault ≡ Some met
  pub answered : end ≡ answer_of met
