use Rattle.rpc_frame.proofs.EveryStream.{every_stream as all}
use Rattle.rpc_frame.proofs.laws.every_stream.Goals as goal

pub returns : goal.returns
returns c = all
