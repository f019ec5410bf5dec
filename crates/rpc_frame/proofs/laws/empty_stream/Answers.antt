use Rattle.std.proofs.Common.{[]}
use Rattle.rpc_frame.proofs.HeldLemmas.{nothing_begun}
use Rattle.rpc_frame.proofs.Readings.{reads_none}
use Rattle.rpc_frame.proofs.laws.empty_stream.Goals as goal

pub returns : goal.returns
returns c = λ limit. reads_none limit [] (nothing_begun limit)
