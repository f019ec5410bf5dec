-- How a fault ends a call.
use Rattle.rpc_frame.specs.declared.faults.FrameFault.{FrameFault}
use Rattle.rpc_frame.specs.declared.faults.FrameFault.TheVariants as fault
use Rattle.rpc_frame.specs.declared.faults.FrameEnd.{FrameEnd}
use Rattle.rpc_frame.specs.declared.faults.FrameEnd.TheVariants as end

-- the answer of the call that meets the fault
abbrev pub answer_of : FrameFault → FrameEnd
answer_of (fault.BadHeader place) = end.BadHeader place
answer_of fault.NoLength = end.NoLength
answer_of fault.TwoLengths = end.TwoLengths
answer_of (fault.TooLong number) = end.TooLong number
