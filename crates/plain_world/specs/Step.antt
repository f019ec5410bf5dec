-- The step of the plain machine, and runs of it.
use Rattle.std.specs.Prelude.{◌≡◌, ℕ, List, [], ◌∷◌, ◌++◌, Option, Some, None}
use Rattle.file_uri.specs.Base.{BaseView}
use Rattle.replay_script.specs.declared.moves.Move.{Move}
use Rattle.plain_world.specs.Handling.{Played}
use Rattle.plain_world.specs.Playing.{begins, joins, types, goes_up, goes_down, settles, closes, opens, cuts, shows, tells_file, tells_held}
use Rattle.plain_world.specs.RawFrames.{Reader, raw_begins, raw_ends, raw_hears}
use Rattle.plain_world.specs.World.{World, beginning}

-- what a move does, and none where it is not possible; pieces of streams are read by the grammar of frames. The moves
-- that no world can play yet are not possible.
abbrev pub played : BaseView → Reader → World → Move → Option Played
played base reader w (Move.Daemon d) = begins base w d
played base reader w (Move.Editor e d path text) = joins w e d path text
played base reader w (Move.Typed e place gone text) = types w e place gone text
played base reader w (Move.Up e) = goes_up w e
played base reader w (Move.Down e) = goes_down w e
played base reader w (Move.Settle e) = settles w e
played base reader w (Move.Close e) = closes w e
played base reader w (Move.Open e) = opens w e
played base reader w (Move.Cut e) = cuts w e
played base reader w (Move.Show e) = shows w e
played base reader w (Move.File d path) = tells_file w d path
played base reader w (Move.Held d) = tells_held w d
played base reader w (Move.BeginEditor d c) = raw_begins w d c
played base reader w (Move.Hear d c piece) = raw_hears reader w d c piece
played base reader w (Move.End d c) = raw_ends w d c
played base reader w moved = None

-- the moves of a list, all possible in turn, lead to a world and have printed so much
pub data Leads (base : BaseView) (reader : Reader) : List Move → World → List ℕ → Type 0 where
  Begins : Leads base reader [] beginning []
  Then : (moves : List Move) (w : World) (printed : List ℕ) (moved : Move) (next : Played) → Leads base reader moves w printed
      → played base reader w moved ≡ Some next → Leads base reader (moves ++ moved ∷ []) next.world (printed ++ next.printed)
