-- A daemon has served an event and sent what it sends: that is the event.
use Rattle.std.proofs.Common.{◌≡◌, ℕ, ◌<◌, Bool, true, false, List, length, map, Option, Some, None, refl, sym, ap, ◌∙◌, subst}
use Rattle.std.specs.Prelude.{slice_get, slice_set, option_and_then}
use Rattle.std.specs.List.{list_any}
use Rattle.std.proofs.lemmas.Option.{slice_get_within}
use Rattle.daemon_core.specs.Outputs.{serve}
use Rattle.daemon_core.specs.Sending.{AllCanBeSent}
use Rattle.daemon_core.specs.declared.events.Event.{Event}
use Rattle.daemon_core.specs.declared.events.Output.{Output}
use Rattle.kept_world.specs.Events.{told_editor, fed_lines, is_stop, stops_if, after_event, IsEvent}
use Rattle.kept_world.specs.Worlds.{KeptHost, KeptEditor, KeptWorld, if_there, with_host, lost_with, without_host}
use Rattle.plain_world.proofs.ListLemmas.{at_set}
use Rattle.kept_world.proofs.EventLemmas.{set_again}
use Rattle.kept_world.proofs.TieLemmas.{running_at}
use Rattle.daemon_world.specs.Serving.{IsServed, told}
use Rattle.daemon_world.specs.Worlds.{world_of}

-- the world in which all that was sent is under way
left : Bool → KeptWorld → ℕ → KeptWorld
left true m d = without_host m d
left false m d = m

-- the daemon that has served is put at once, or when all is sent
same_world : (k : KeptWorld) (d : ℕ) (next : KeptHost) (sent : List Output) (b : Bool)
    → stops_if b d next (record k { editors = map (told_editor d sent) k.editors }) ≡ left b (told (with_host k d next) d sent) d
unfolding left
same_world k d next sent true =
    ap (λ hosts. record k { hosts = hosts; editors = map (lost_with d) (map (told_editor d sent) k.editors) }) (sym (set_again k.hosts d (Some next) None))
same_world k d next sent false = refl

by_stop : (k l m : KeptWorld) (d : ℕ) (event : Event) (sent : List Output) (printed : List ℕ) (b : Bool) → IsServed k d event l sent
    → list_any is_stop sent ≡ b → m ≡ left b (told l d sent) d → printed ≡ fed_lines d sent → IsEvent k d event (record { world = m; printed = printed })
by_stop k l m d event sent printed b served stops world lines =
    let next : KeptHost = record served.host { state = (serve served.host.state event).state } in
    let outputs : List Output = (serve served.host.state event).outputs in
    let world_is : m ≡ (after_event k d served.host event).world =
    world
    ∙ ap (λ v. left b (told v d sent) d) served.world
    ∙ ap (λ s. left b (told (with_host k d next) d s) d) served.sent_is
    ∙ sym (same_world k d next outputs b)
    ∙ ap (λ c. stops_if c d next (record k { editors = map (told_editor d outputs) k.editors })) (sym stops ∙ ap (list_any is_stop) served.sent_is) in
    let printed_is : printed ≡ (after_event k d served.host event).printed = lines ∙ ap (fed_lines d) served.sent_is in
    record {
      host = served.host;
      runs = served.runs;
      sent = served.can_be_sent;
      is = λ i. record { world = world_is i; printed = printed_is i };
    }

-- the daemon goes on
pub event_goes_on : (k l m : KeptWorld) (d : ℕ) (event : Event) (sent : List Output) (printed : List ℕ) → IsServed k d event l sent
    → list_any is_stop sent ≡ false → m ≡ told l d sent → printed ≡ fed_lines d sent → IsEvent k d event (record { world = m; printed = printed })
unfolding left
event_goes_on k l m d event sent printed served stops world lines = by_stop k l m d event sent printed false served stops world lines

-- the daemon stops
pub event_stops : (k l m : KeptWorld) (d : ℕ) (event : Event) (sent : List Output) (printed : List ℕ) → IsServed k d event l sent
    → list_any is_stop sent ≡ true → m ≡ without_host (told l d sent) d → printed ≡ fed_lines d sent
    → IsEvent k d event (record { world = m; printed = printed })
unfolding left
event_stops k l m d event sent printed served stops world lines = by_stop k l m d event sent printed true served stops world lines

-- the daemon has served it in its place
pub served_at : (hosts : List (Option KeptHost)) (editors : List KeptEditor) (owners : List ℕ) (d : ℕ) (event : Event) (h next : KeptHost) (sent : List Output)
    → slice_get hosts d ≡ Some (Some h) → next ≡ record h { state = (serve h.state event).state } → sent ≡ (serve h.state event).outputs
    → AllCanBeSent h.state event
    → IsServed (world_of hosts editors owners) d event (world_of (slice_set hosts d (Some next)) editors owners) sent
served_at hosts editors owners d event h next sent at is outputs can = record {
  host = h;
  runs = ap (option_and_then if_there) at;
  can_be_sent = can;
  sent_is = outputs;
  world = ap (λ (g : KeptHost). world_of (slice_set hosts d (Some g)) editors owners) is;
}

-- it is there still
pub served_within : (k l : KeptWorld) (d : ℕ) (event : Event) (sent : List Output) → IsServed k d event l sent → d < length l.hosts
served_within k l d event sent served =
    let next : KeptHost = record served.host { state = (serve served.host.state event).state } in
    subst (λ (v : KeptWorld). d < length v.hosts) (sym served.world)
    (slice_get_within (slice_set k.hosts d (Some next)) d (Some next) (at_set k.hosts d (Some next) (Some served.host) (running_at k d served.host served.runs)))
