use Rattle.rpc_frame.specs.Written.{frame_bytes}
use Rattle.rpc_frame.proofs.Readings.{reads_behind}
use Rattle.rpc_frame.proofs.WrittenLemmas.{written_frame}
use Rattle.rpc_frame.proofs.laws.written_is_read.Goals as goal

pub returns : goal.returns
returns c = λ limit body rest bodies end within small r. reads_behind limit body (frame_bytes body) rest bodies end (written_frame limit body within small) r
