-- The plan to stop a device at a counted call, and whether it may fail besides (fault injection).
use Rattle.std.specs.Prelude.{ℕ, ◌-◌, Bool, false, nat_le, Option, Some, None}
use Rattle.outside.specs.declared.modes.Mode.{Mode}

-- a stop: the number of the counted call at which it comes, since the device was armed, and its mode
pub record Stop : Type 0 where
  pub call : ℕ
  pub mode : Mode

-- the arming of a device: its stop, if it has one, and the calls counted since it was made or last armed
pub record Arming : Type 0 where
  pub stop : Option Stop
  pub calls : ℕ

-- the plan of a device: its stop, if it has one, and whether a call may fail for another cause
pub record Plan : Type 0 where
  pub stop : Option Stop
  pub may_fail : Bool

-- the stop has come when this many calls are counted
abbrev pub has_come : Option Stop → ℕ → Bool
has_come None calls = false
has_come (Some stop) calls = nat_le stop.call calls

-- how many counted calls there are up to and with the stop
abbrev pub left_until : Option Stop → ℕ → Option ℕ
left_until None calls = None
left_until (Some stop) calls = Some (stop.call - calls)

abbrev pub left_of : Arming → Option ℕ
left_of arming = left_until arming.stop arming.calls
