use Rattle.rpc_frame.proofs.Readings.{reads_then}
use Rattle.rpc_frame.proofs.laws.however_cut.Goals as goal

pub returns : goal.returns
returns c = reads_then
