use Rattle.std.specs.Prelude.{ℕ, ◌==◌, Bool, List, length, min, drop, Some, if◌then◌else◌}
use Rattle.outside.specs.SourceMeaning.{SourceMeaning}
use Rattle.outside.specs.declared.sources.Took.{Took}
use Rattle.outside.specs.declared.sources.Took.TheVariants.{Bytes, Ended, Failed}
use Rattle.outside_mem.specs.Calls.{is_to_fail}

-- what contracts see of a source over memory: the bytes left, and whether it has answered its end
pub record SureSourceView : Type 0 where
  pub left : List ℕ
  pub ended : Bool

-- the same of one that may fail: the numbers of the calls that are to fail, how many calls and faults there were
pub record MemSourceView : Type 0 where
  pub left : List ℕ
  pub ended : Bool
  pub failing : List ℕ
  pub calls : ℕ
  pub faults : ℕ

-- each tells its bytes; one that never fails counts no fault
abbrev pub sure_source : SureSourceView → SourceMeaning
sure_source s = record { left = Some s.left; ended = s.ended; faults = 0 }

abbrev pub mem_source : MemSourceView → SourceMeaning
mem_source s = record { left = Some s.left; ended = s.ended; faults = s.faults }

-- what a read into a buffer with this room gives: all that fits
abbrev pub read_of : List ℕ → ℕ → Took
read_of left room = if length left == 0 then Ended else Bytes (min (length left) room)

-- what it leaves
abbrev pub rest_of : List ℕ → ℕ → List ℕ
rest_of left room = drop (min (length left) room) left

-- what a read gives of a source that may fail
abbrev pub mem_read_of : MemSourceView → ℕ → Took
mem_read_of s room = if is_to_fail s.failing s.calls then Failed else read_of s.left room
