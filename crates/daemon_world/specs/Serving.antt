-- An event in two steps: the daemon has served it, and then what it sends goes out.
use Rattle.std.specs.Prelude.{◌≡◌, ℕ, List, map, Some}
use Rattle.daemon_core.specs.Outputs.{serve}
use Rattle.daemon_core.specs.Sending.{AllCanBeSent}
use Rattle.daemon_core.specs.declared.events.Event.{Event}
use Rattle.daemon_core.specs.declared.events.Output.{Output}
use Rattle.kept_world.specs.Events.{told_editor}
use Rattle.kept_world.specs.Worlds.{KeptHost, KeptEditor, KeptWorld, running, editor_of, with_host}

-- a daemon has served an event, and nothing that it sends is under way yet
pub record IsServed (k : KeptWorld) (d : ℕ) (event : Event) (l : KeptWorld) (sent : List Output) : Type 0 where
  pub host : KeptHost
  pub runs : running k d ≡ Some host
  pub can_be_sent : AllCanBeSent host.state event
  pub sent_is : sent ≡ (serve host.state event).outputs
  pub world : l ≡ with_host k d (record host { state = (serve host.state event).state })

-- what a daemon sends is under way to its editors
abbrev pub told : KeptWorld → ℕ → List Output → KeptWorld
told k d sent = record k { editors = map (told_editor d sent) k.editors }

-- no editor has this connection to a daemon
pub record HasNobody (k : KeptWorld) (d n : ℕ) : Type 0 where
  pub nobody : (e : ℕ) (x : KeptEditor) → editor_of k e ≡ Some x → x.daemon ≡ d → x.connection ≡ Some n → ⊥

-- an editor has it
pub record HasReceiver (k : KeptWorld) (d n e : ℕ) : Type 0 where
  pub editor : KeptEditor
  pub there : editor_of k e ≡ Some editor
  pub daemon : editor.daemon ≡ d
  pub connection : editor.connection ≡ Some n
