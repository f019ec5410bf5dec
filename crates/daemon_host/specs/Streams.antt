-- The stream of a connection that a script feeds, between two pieces, and what a piece is read as.
use Rattle.std.specs.Prelude.{◌≡◌, IsTrue, []}
use Rattle.rpc_frame.specs.Pieces.{EndsWith}
use Rattle.rpc_frame.specs.ReaderView.{ReaderView}
use Rattle.rpc_frame.specs.declared.pieces.StreamRead.{StreamRead}
use Rattle.plain_world.specs.RawFrames.{Reading}
use Rattle.plain_world.specs.declared.TheConstants.{LONGEST_BODY}

-- a reader of the daemon for which memory has lasted, and in which no body waits
pub record IsAtRest (reader : ReaderView) : Type 0 where
  pub limit : reader.limit ≡ LONGEST_BODY
  pub live : IsTrue reader.live
  pub none_wait : reader.done ≡ []

-- the bodies of a reading, and its fault, if it has one
pub record IsReadAs (reading : Reading) (read : StreamRead) : Type 0 where
  pub bodies : read.bodies ≡ reading.bodies
  pub ends : EndsWith read.fault reading.kept
