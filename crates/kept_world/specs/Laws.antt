-- What holds of whole worlds that a program keeps, as statements.
use Rattle.std.specs.Prelude.{◌≡◌, Some, is_some}
use Rattle.file_uri.specs.Base.{BaseView, IsBase}
use Rattle.replay_script.specs.declared.moves.Move.{Move}
use Rattle.plain_world.specs.Handling.{Played}
use Rattle.plain_world.specs.RawFrames.{Reader}
use Rattle.plain_world.specs.Step.{played}
use Rattle.plain_world.specs.World as P
use Rattle.kept_world.specs.Events.{KeptPlayed}
use Rattle.kept_world.specs.Moves.{IsMove, can_move}
use Rattle.kept_world.specs.Tie.{Ties}
use Rattle.kept_world.specs.Worlds.{KeptWorld, beginning}

-- A move leads in the plain machine to a world that is tied to the one that the program keeps, and prints the same.
pub record Plays (base : BaseView) (reader : Reader) (w : P.World) (moved : Move) (p : KeptPlayed) : Type 0 where
  pub next : Played
  pub is : played base reader w moved ≡ Some next
  pub tied : Ties base p.world next.world
  pub printed : p.printed ≡ next.printed

abbrev pub BeginningsAreAlike : Type 0
BeginningsAreAlike = (base : BaseView) → Ties base beginning P.beginning

abbrev pub MovesAreAlike : Type 0
MovesAreAlike =
    (base : BaseView) (reader : Reader) (k : KeptWorld) (w : P.World) (moved : Move) (p : KeptPlayed) → IsBase base → Ties base k w
    → IsMove base reader k moved p → Plays base reader w moved p

-- a move is possible in the one world just where it is in the other
abbrev pub PossibleAlike : Type 0
PossibleAlike =
    (base : BaseView) (reader : Reader) (k : KeptWorld) (w : P.World) (moved : Move) → Ties base k w
    → can_move base k moved ≡ is_some (played base reader w moved)
