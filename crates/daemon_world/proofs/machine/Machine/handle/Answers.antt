use Rattle.std.proofs.Common.{◌≡◌, ◌<◌, true, false, length, sym, ap, ◌∙◌, subst, string_bytes}
use Rattle.std.specs.List.{list_any}
use Rattle.daemon_core.specs.declared.events.Event.TheVariants.{EditorFrame}
use Rattle.kept_world.specs.Events.{is_stop}
use Rattle.kept_world.specs.Worlds.{KeptWorld, without_host}
use Rattle.daemon_world.proofs.EventLemmas.{event_goes_on, event_stops, served_within}
use Rattle.daemon_world.proofs.machine.Machine.handle.Goals as goal

pub stop-requires : goal.stop-requires
stop-requires c =
    subst (λ (v : KeptWorld). c.args.d < length v.hosts) (sym c.in_ok-printed.ensures.editors)
    (served_within c.args.self.now c.serve.new.self c.args.d (EditorFrame c.args.n c.args.body) c.in_ok-outputs.outputs c.in_ok-outputs.ensures)

pub returns-then-not-is_last : goal.returns-then-not-is_last
returns-then-not-is_last c =
    let goes_on : list_any is_stop c.in_ok-outputs.outputs ≡ false =
    ap (list_any is_stop) (sym c.as_slice.ensures) ∙ sym c.stops-is_last.ensures ∙ c.if-not-is_last.true in
    event_goes_on c.args.self.now c.serve.new.self c.send_all.new.self c.args.d (EditorFrame c.args.n c.args.body) c.in_ok-outputs.outputs
    (string_bytes c.in_ok-printed.printed) c.in_ok-outputs.ensures goes_on c.in_ok-printed.ensures.editors c.in_ok-printed.ensures.printed

pub returns : goal.returns
returns c =
    let stops : list_any is_stop c.in_ok-outputs.outputs ≡ true =
    ap (list_any is_stop) (sym c.as_slice.ensures) ∙ sym c.stops-is_last.ensures ∙ c.if-not-is_last.false in
    event_stops c.args.self.now c.serve.new.self c.stop.new.self c.args.d (EditorFrame c.args.n c.args.body) c.in_ok-outputs.outputs
    (string_bytes c.in_ok-printed.printed) c.in_ok-outputs.ensures stops
    (c.stop.ensures ∙ ap (λ (v : KeptWorld). without_host v c.args.d) c.in_ok-printed.ensures.editors) c.in_ok-printed.ensures.printed
