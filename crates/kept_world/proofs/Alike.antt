-- What was played in a world that a program keeps, and what was played in the plain machine.
use Rattle.std.proofs.Common.{◌≡◌, ℕ, List, Option, Some, subst}
use Rattle.file_uri.specs.Base.{BaseView}
use Rattle.plain_world.specs.Handling.{Played}
use Rattle.plain_world.specs.Playing.{goes_up}
use Rattle.plain_world.specs.RawFrames.{Reader, raw_hears}
use Rattle.plain_world.specs.World as P
use Rattle.kept_world.specs.Events.{KeptPlayed}
use Rattle.kept_world.specs.Moves.{IsUp, IsHeardOn}
use Rattle.kept_world.specs.Tie.{Ties}
use Rattle.kept_world.specs.Worlds.{KeptWorld}

-- these came to worlds that are tied, and print the same
pub record Alike (base : BaseView) (p : KeptPlayed) (next : Played) : Type 0 where
  pub tied : Ties base p.world next.world
  pub printed : p.printed ≡ next.printed

-- a move of the plain machine was possible, and came to what the program has played
pub record Comes (base : BaseView) (result : Option Played) (p : KeptPlayed) : Type 0 where
  pub next : Played
  pub is : result ≡ Some next
  pub alike : Alike base p next

pub comes_to : (base : BaseView) (result : Option Played) (p q : KeptPlayed) (next : Played) → q ≡ p → result ≡ Some next → Alike base q next
    → Comes base result p
comes_to base result p q next same is alike = record { next = next; is = is; alike = subst (λ r. Alike base r next) same alike }

-- What comes to a daemon from an editor of a script, and on a connection that the script feeds, comes so in both worlds.

abbrev pub UpsAreAlike : Type 0
UpsAreAlike = (base : BaseView) (k : KeptWorld) (w : P.World) (e : ℕ) (p : KeptPlayed) → Ties base k w → IsUp k e p → Comes base (goes_up w e) p

abbrev pub HearingsAreAlike : Type 0
HearingsAreAlike =
    (base : BaseView) (reader : Reader) (k : KeptWorld) (w : P.World) (d c : ℕ) (piece : List ℕ) (p : KeptPlayed) → Ties base k w
    → IsHeardOn reader k d c piece p → Comes base (raw_hears reader w d c piece) p
