-- How a fault is answered.
use Rattle.rpc_message.specs.declared.faults.Cause.{Cause}
use Rattle.rpc_message.specs.declared.faults.Cause.TheVariants as cause
use Rattle.rpc_message.specs.declared.refusals.Refusal.{Refusal}
use Rattle.rpc_message.specs.declared.refusals.Refusal.TheVariants.{ParseError, InvalidRequest, UnknownMethod, BadParams}

-- the refusal of a body that is no message
abbrev pub refusal_for : Cause → Refusal
refusal_for cause.ParseError = ParseError
refusal_for cause.InvalidRequest = InvalidRequest
refusal_for cause.UnknownMethod = UnknownMethod
refusal_for (cause.BadParams member) = BadParams member
