-- The laws of whole worlds.
use Rattle.std.proofs.Common.{◌≡◌, is_some, refl}
use Rattle.file_uri.specs.Base.{BaseView, IsBase}
use Rattle.replay_script.specs.declared.moves.Move.{Move}
use Rattle.plain_world.specs.RawFrames.{Reader}
use Rattle.plain_world.specs.Step.{played}
use Rattle.plain_world.specs.World as P
use Rattle.kept_world.specs.Events.{KeptPlayed}
use Rattle.kept_world.specs.Laws.{Plays, BeginningsAreAlike, MovesAreAlike, PossibleAlike}
use Rattle.kept_world.specs.Moves.{IsMove, can_move}
use Rattle.kept_world.specs.Tie.{Ties}
use Rattle.kept_world.specs.Worlds.{KeptWorld}
use Rattle.kept_world.proofs.Alike.{Comes, UpsAreAlike, HearingsAreAlike}
use Rattle.kept_world.proofs.BeginLemmas.{begins_alike}
use Rattle.kept_world.proofs.CutLemmas.{cuts_alike}
use Rattle.kept_world.proofs.DownLemmas.{down_alike}
use Rattle.kept_world.proofs.FeedLemmas.{raw_begins_alike, raw_ends_alike}
use Rattle.kept_world.proofs.JoinLemmas.{joins_alike}
use Rattle.kept_world.proofs.OpenLemmas.{opens_alike}
use Rattle.kept_world.proofs.OwnLemmas.{types_alike, closes_alike}
use Rattle.kept_world.proofs.SettleLemmas.{settles_alike}
use Rattle.kept_world.proofs.ShowLemmas.{shows_alike, file_alike, held_alike}
use Rattle.kept_world.proofs.PossibleLemmas.{begins_possible, joins_possible, types_possible, up_possible, down_possible, settles_possible, closes_possible, opens_possible}
use Rattle.kept_world.proofs.PossibleLemmas.{cuts_possible, shows_possible, file_possible, held_possible, raw_begins_possible, hears_possible, raw_ends_possible}

pub beginnings_are_alike : BeginningsAreAlike
beginnings_are_alike base = record { hosts = tt; editors = tt; connections = refl; on_their_own = λ e f n x y at_e. cc }

pub moves_are_possible_alike : PossibleAlike
moves_are_possible_alike base reader k w moved ties = possible base reader k w moved ties where
  possible : (base : BaseView) (reader : Reader) (k : KeptWorld) (w : P.World) (moved : Move) → Ties base k w
      → can_move base k moved ≡ is_some (played base reader w moved)
  possible base reader k w (Move.Daemon d) ties = begins_possible base k w d ties
  possible base reader k w (Move.Editor e d path text) ties = joins_possible base k w e d path text ties
  possible base reader k w (Move.Typed e place gone text) ties = types_possible base k w e place gone text ties
  possible base reader k w (Move.Up e) ties = up_possible base k w e ties
  possible base reader k w (Move.Down e) ties = down_possible base k w e ties
  possible base reader k w (Move.Settle e) ties = settles_possible base k w e ties
  possible base reader k w (Move.Close e) ties = closes_possible base k w e ties
  possible base reader k w (Move.Open e) ties = opens_possible base k w e ties
  possible base reader k w (Move.Cut e) ties = cuts_possible base k w e ties
  possible base reader k w (Move.Show e) ties = shows_possible base k w e ties
  possible base reader k w (Move.File d path) ties = file_possible base k w d path ties
  possible base reader k w (Move.Held d) ties = held_possible base k w d ties
  possible base reader k w (Move.BeginEditor d c) ties = raw_begins_possible base k w d c ties
  possible base reader k w (Move.Hear d c piece) ties = hears_possible base reader k w d c piece ties
  possible base reader k w (Move.End d c) ties = raw_ends_possible base k w d c ties
  possible base reader k w moved ties = refl

-- What has come of a move in both worlds.

plays : (base : BaseView) (reader : Reader) (w : P.World) (moved : Move) (p : KeptPlayed) → Comes base (played base reader w moved) p
    → Plays base reader w moved p
plays base reader w moved p came = record { next = came.next; is = came.is; tied = came.alike.tied; printed = came.alike.printed }

pub moves_from : UpsAreAlike → HearingsAreAlike → MovesAreAlike
moves_from ups hearings base reader k w moved p is_base ties move = plays base reader w moved p (by ups hearings base reader k w moved p is_base ties move) where
  by : UpsAreAlike → HearingsAreAlike → (base : BaseView) (reader : Reader) (k : KeptWorld) (w : P.World) (moved : Move) (p : KeptPlayed) → IsBase base
      → Ties base k w → IsMove base reader k moved p → Comes base (played base reader w moved) p
  by ups hearings base reader k w (Move.Daemon d) p is_base ties move = begins_alike base k w d p is_base ties move
  by ups hearings base reader k w (Move.Editor e d path text) p is_base ties move = joins_alike base k w e d path text p ties move
  by ups hearings base reader k w (Move.Typed e place gone text) p is_base ties move = types_alike base k w e place gone text p ties move
  by ups hearings base reader k w (Move.Up e) p is_base ties move = ups base k w e p ties move
  by ups hearings base reader k w (Move.Down e) p is_base ties move = down_alike base k w e p ties move
  by ups hearings base reader k w (Move.Settle e) p is_base ties move = settles_alike base k w e p (λ l v q. ups base l v e q) ties move
  by ups hearings base reader k w (Move.Close e) p is_base ties move = closes_alike base k w e p ties move
  by ups hearings base reader k w (Move.Open e) p is_base ties move = opens_alike base k w e p ties move
  by ups hearings base reader k w (Move.Cut e) p is_base ties move = cuts_alike base k w e p ties move
  by ups hearings base reader k w (Move.Show e) p is_base ties move = shows_alike base k w e p ties move
  by ups hearings base reader k w (Move.File d path) p is_base ties move = file_alike base k w d path p ties move
  by ups hearings base reader k w (Move.Held d) p is_base ties move = held_alike base k w d p ties move
  by ups hearings base reader k w (Move.BeginEditor d c) p is_base ties move = raw_begins_alike base k w d c p ties move
  by ups hearings base reader k w (Move.Hear d c piece) p is_base ties move = hearings base reader k w d c piece p ties move
  by ups hearings base reader k w (Move.End d c) p is_base ties move = raw_ends_alike base k w d c p ties move
  by ups hearings base reader k w moved p is_base ties move = absurd move
