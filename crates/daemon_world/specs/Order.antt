-- What always holds of the worlds that moves lead to: for whom each connection was begun, and where something may be under way.
use Rattle.std.specs.Prelude.{◌≡◌, ◌≤◌, ◌-◌, ℕ, true, List, [], Some, None, is_some, slice_get}
use Rattle.editor_client.specs.Editor.{is_closed}
use Rattle.plain_world.specs.declared.TheConstants.{FIRST_OWN}
use Rattle.kept_world.specs.Worlds.{KeptEditor, KeptWorld, running, editor_of}

-- A connection of the script's own was begun for an editor, which `owners` tells of each in the order of making. Its daemon runs.
pub record IsConnectedOn (k : KeptWorld) (owners : List ℕ) (e : ℕ) (x : KeptEditor) (n : ℕ) : Type 0 where
  pub own : FIRST_OWN ≤ n
  pub owner : slice_get owners (n - FIRST_OWN) ≡ Some e
  pub runs : is_some (running k x.daemon) ≡ true

-- an editor without a connection has closed its text, and nothing is under way
pub record IsApart (x : KeptEditor) : Type 0 where
  pub closed : is_closed x.seat.client.state ≡ true
  pub up : x.seat.up ≡ []
  pub down : x.seat.down ≡ []

pub record IsOrderly (k : KeptWorld) (owners : List ℕ) : Type 0 where
  pub connected : (e n : ℕ) (x : KeptEditor) → editor_of k e ≡ Some x → x.connection ≡ Some n → IsConnectedOn k owners e x n
  pub apart : (e : ℕ) (x : KeptEditor) → editor_of k e ≡ Some x → x.connection ≡ None → IsApart x
