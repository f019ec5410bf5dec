use Rattle.rpc_frame.proofs.Readings.{reads_closed}
use Rattle.rpc_frame.proofs.laws.closed_by_its_fault.Goals as goal

pub returns : goal.returns
returns c = reads_closed
