use Rattle.rpc_frame.proofs.OneReading.{one_reading as one}
use Rattle.rpc_frame.proofs.laws.one_reading.Goals as goal

pub returns : goal.returns
returns c = one
