-- What an event of a daemon makes of a world: whom it sends frames, what is printed of them, and whether the daemon stops.
use Rattle.std.specs.Prelude.{◌≡◌, ℕ, ◌==◌, nat_lt, Bool, true, false, List, [], map, flat_map, Option, Some, None, if◌then◌else◌}
use Rattle.std.specs.List.{list_any}
use Rattle.daemon_core.specs.Outputs.{serve}
use Rattle.daemon_core.specs.Sending.{AllCanBeSent}
use Rattle.daemon_core.specs.declared.events.Event.{Event}
use Rattle.daemon_core.specs.declared.events.Output.{Output}
use Rattle.daemon_core.specs.declared.events.Output.TheVariants.{Send, HangUp, Notice, Shutdown}
use Rattle.frame_world.specs.Serving.{received}
use Rattle.plain_world.specs.Lines.{told_line}
use Rattle.plain_world.specs.declared.TheConstants.{FIRST_OWN}
use Rattle.kept_world.specs.Worlds.{KeptHost, KeptEditor, KeptWorld, running, with_host, without_host}

-- the next world, and the lines that are printed
pub record KeptPlayed : Type 0 where
  pub world : KeptWorld
  pub printed : List ℕ

-- what is sent on a connection is under way to the editor that has it
abbrev pub received_on : Option ℕ → List Output → KeptEditor → KeptEditor
received_on None sent x = x
received_on (Some n) sent x = record x { seat = received n sent x.seat }

-- what daemon d sends is under way to its editors
abbrev pub told_editor : ℕ → List Output → KeptEditor → KeptEditor
told_editor d sent x = if x.daemon == d then received_on x.connection sent x else x

-- a frame that is sent on a connection that the script feeds is printed
abbrev pub fed_line : ℕ → Output → List ℕ
fed_line d (Send n frame) = if nat_lt n FIRST_OWN then told_line d (Send n frame) else []
fed_line d (HangUp n) = []
fed_line d (Notice notice) = []
fed_line d Shutdown = []

abbrev pub fed_lines : ℕ → List Output → List ℕ
fed_lines d sent = flat_map (fed_line d) sent

-- the daemon is to stop
abbrev pub is_stop : Output → Bool
is_stop (Send n frame) = false
is_stop (HangUp n) = false
is_stop (Notice notice) = false
is_stop Shutdown = true

abbrev pub stops_if : Bool → ℕ → KeptHost → KeptWorld → KeptWorld
stops_if false d h k = with_host k d h
stops_if true d h k = without_host k d

-- the world after an event of daemon d
abbrev pub after_event : KeptWorld → ℕ → KeptHost → Event → KeptPlayed
after_event k d h event =
    let s = serve h.state event in
    record {
      world = stops_if (list_any is_stop s.outputs) d (record h { state = s.state }) (record k { editors = map (told_editor d s.outputs) k.editors });
      printed = fed_lines d s.outputs;
    }

-- an event has come to a daemon that runs, and each message that it sends can be sent
pub record IsEvent (k : KeptWorld) (d : ℕ) (event : Event) (p : KeptPlayed) : Type 0 where
  pub host : KeptHost
  pub runs : running k d ≡ Some host
  pub sent : AllCanBeSent host.state event
  pub is : p ≡ after_event k d host event
