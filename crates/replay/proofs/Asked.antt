-- Lines that ask for a move: those whose reading wants memory, and those that print.
use Rattle.std.proofs.Common.{◌≡◌, ℕ, ◌<◌, List, [], length, Option, Some, None, Ok, ap, refl, arith}
use Rattle.plain_world.specs.Handling.{Played}
use Rattle.plain_world.specs.RawFrames.{Reader}
use Rattle.plain_world.specs.World.{World}
use Rattle.replay_script.specs.Reads.{AnswerTakes, Gives}
use Rattle.replay_script.specs.declared.moves.Move.{Move}
use Rattle.replay.specs.Ending.{AsksForMove, printed_by}
use Rattle.replay.specs.Script.{bytes_ask, line_played, asked_played}

memory_asked : (line : List ℕ) (answer : Option Move) → bytes_ask line ≡ Some answer → AnswerTakes answer → AsksForMove line
memory_asked line None asks takes = absurd takes
memory_asked line (Some moved) asks takes = record { moved = moved; asks = asks }

-- memory is wanted only in place of a move
pub wanting_asks : (line : List ℕ) → Gives AnswerTakes (bytes_ask line) → AsksForMove line
wanting_asks line gives = memory_asked line gives.value gives.is gives.memory

print_asked : (reader : Reader) (w : World) (line : List ℕ) (asked : Option (Option Move)) (played : Played) → bytes_ask line ≡ asked
    → asked_played reader w asked ≡ Ok played → 0 < length played.printed → AsksForMove line
print_asked reader w line None played asks plays prints = cc
print_asked reader w line (Some None) played asks plays prints =
    let none : [] ≡ played.printed = ap printed_by plays in
    absurd (omega (arith, ap length none, prints))
print_asked reader w line (Some (Some moved)) played asks plays prints = record { moved = moved; asks = asks }

-- a line that asks for nothing prints nothing
pub printing_asks : (reader : Reader) (w : World) (line : List ℕ) (played : Played) → line_played reader w line ≡ Ok played → 0 < length played.printed → AsksForMove line
printing_asks reader w line played is prints = print_asked reader w line (bytes_ask line) played refl is prints
