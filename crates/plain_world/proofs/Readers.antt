-- There is one reading of every stream, and so one reader.
use Rattle.std.proofs.Common.{◌≡◌, ℕ, List}
use Rattle.rpc_frame.specs.Stream.{IsRead}
use Rattle.rpc_frame.proofs.EveryStream.{every_stream}
use Rattle.rpc_frame.proofs.OneReading.{one_reading}
use Rattle.plain_world.specs.Laws.{ReadersAgree}
use Rattle.plain_world.specs.RawFrames.{Reader, Reading}
use Rattle.plain_world.specs.declared.TheConstants.{LONGEST_BODY}

abbrev read_so : {stream : List ℕ} → IsRead LONGEST_BODY stream → Reading
read_so found = record { bodies = found.bodies; kept = found.end }

pub there_is_a_reader : Reader
there_is_a_reader =
    record { read = λ stream. read_so (every_stream LONGEST_BODY stream); right = λ stream. (every_stream LONGEST_BODY stream).reads }

pub readers_agree : ReadersAgree
readers_agree one other stream =
    let same = one_reading LONGEST_BODY stream (one.read stream).bodies (other.read stream).bodies (one.read stream).kept (other.read stream).kept (one.right stream) (other.right stream) in
    λ i. record { bodies = same.0 i; kept = same.1 i }
