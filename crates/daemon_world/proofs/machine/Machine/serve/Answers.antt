use Rattle.std.proofs.Common.{◌≡◌, true, is_some, Some, sym, subst}
use Rattle.std.specs.Prelude.{slice_get, slice_set}
use Rattle.daemon_core.specs.declared.events.Event.TheVariants.{EditorFrame}
use Rattle.kept_world.specs.Worlds.{KeptWorld, running}
use Rattle.daemon_world.specs.Serving.{IsServed}
use Rattle.daemon_world.specs.Worlds.{world_of}
use Rattle.daemon_world.proofs.EventLemmas.{served_at}
use Rattle.daemon_world.proofs.OrderLemmas.{host_set, runs_at}
use Rattle.daemon_world.proofs.machine.Machine.serve.Goals as goal

pub invariant_of-self-in_err-outputs : goal.invariant_of-self-in_err-outputs
invariant_of-self-in_err-outputs c =
    let k : KeptWorld = world_of c.self.inside.hosts.items c.self.inside.editors.items c.self.inside.owners.items in
    let runs : is_some (running k c.args.d) ≡ true = subst (λ (v : KeptWorld). is_some (running v c.args.d) ≡ true) (sym c.self.view_is) c.requires in
    host_set k c.self.inside.owners.items c.args.d c.handle_frame.new.self runs c.self.invariant

pub invariant_of-self-2 : goal.invariant_of-self-2
invariant_of-self-2 c =
    let k : KeptWorld = world_of c.self.inside.hosts.items c.self.inside.editors.items c.self.inside.owners.items in
    let runs : is_some (running k c.args.d) ≡ true = subst (λ (v : KeptWorld). is_some (running v c.args.d) ≡ true) (sym c.self.view_is) c.requires in
    host_set k c.self.inside.owners.items c.args.d c.handle_frame.new.self runs c.self.invariant

pub returns : goal.returns
returns c =
    let k : KeptWorld = world_of c.self.inside.hosts.items c.self.inside.editors.items c.self.inside.owners.items in
    let runs : is_some (running k c.args.d) ≡ true = subst (λ (v : KeptWorld). is_some (running v c.args.d) ≡ true) (sym c.self.view_is) c.requires in
    let at : slice_get c.self.inside.hosts.items c.args.d ≡ Some (Some c.in-Some.host) =
    runs_at k c.args.d c.index_mut-host.result.now c.in-Some.host runs c.index_mut-host.ensures.value c.in-Some.is in
    let l : KeptWorld =
    world_of (slice_set c.self.inside.hosts.items c.args.d (Some c.handle_frame.new.self)) c.self.inside.editors.items c.self.inside.owners.items in
    subst (λ (v : KeptWorld). IsServed v c.args.d (EditorFrame c.args.n c.args.body) l c.in_ok-outputs.outputs) c.self.view_is
    (served_at c.self.inside.hosts.items c.self.inside.editors.items c.self.inside.owners.items c.args.d (EditorFrame c.args.n c.args.body) c.in-Some.host c.handle_frame.new.self
    c.in_ok-outputs.outputs at c.in_ok-outputs.ensures.state c.in_ok-outputs.ensures.outputs c.in_ok-outputs.ensures.sent)
