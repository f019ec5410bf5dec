-- What contracts see of a world, and how its parts make it.
use Rattle.std.specs.Prelude.{ℕ, Bool, true, false, List, length, Option}
use Rattle.replay_script.specs.declared.moves.Move.{Move}
use Rattle.replay_script.specs.declared.moves.Move.TheVariants.{Cut, End}
use Rattle.kept_world.specs.Worlds.{KeptHost, KeptEditor, KeptWorld, beginning}

-- a world, and how many moves were played in it
pub record WorldView : Type 0 where
  pub kept : KeptWorld
  pub moves : ℕ

-- before the first move
abbrev pub new_world : WorldView
new_world = record { kept = beginning; moves = 0 }

-- the world of these daemons and editors, and of one connection of the script's own for each of these owners
abbrev pub world_of : List (Option KeptHost) → List KeptEditor → List ℕ → KeptWorld
world_of hosts editors owners = record { hosts = hosts; editors = editors; connections = length owners }

-- a move that asks for no memory: a connection ends
abbrev pub takes_no_memory : Move → Bool
takes_no_memory (Cut e) = true
takes_no_memory (End d c) = true
takes_no_memory moved = false
