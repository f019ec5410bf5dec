-- The pieces so far are the bodies and then what the reader keeps.
use Rattle.std.proofs.Common.{◌≡◌, true, take}
use Rattle.std.specs.List.{concat}
use Rattle.rpc_frame.specs.Stream.{Reads}
use Rattle.rpc_frame.specs.ReaderView.{IsUnbroken}
use Rattle.rpc_frame.proofs.pieces.read_each.Given as goal

abbrev pub invariant-loop-piece : goal.invariant-loop-piece
invariant-loop-piece l = record {
  live : l.reader.live ≡ true;
  limit : l.reader.limit ≡ l.limit;
  unbroken : IsUnbroken l.reader.kept;
  read : Reads l.limit (concat (take l.piece-index l.pieces)) l.bodies.items l.reader.kept;
}
