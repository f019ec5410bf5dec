use Rattle.std.proofs.Common.{◌≡◌, Some, is_some, OnOk, ap, ◌∙◌, subst}
use Rattle.daemon_core.specs.Outputs.{serve}
use Rattle.daemon_core.specs.declared.events.Event.TheVariants.{EditorBegan}
use Rattle.kept_world.specs.Worlds.{KeptHost, KeptWorld, running, with_host}
use Rattle.daemon_world.specs.Worlds.{world_of}
use Rattle.daemon_world.proofs.OrderLemmas.{host_set}
use Rattle.daemon_world.proofs.OwnMoveLemmas.{host_stands, host_made}
use Rattle.daemon_world.proofs.machine.Machine.begin_at.Goals as goal

pub invariant_of-self : goal.invariant_of-self
invariant_of-self c =
    let i = c.self.inside in
    host_set (world_of i.hosts.items i.editors.items i.owners.items) i.owners.items c.args.d c.begin.new.self
    (ap (λ (w : KeptWorld). is_some (running w c.args.d)) c.self.view_is ∙ c.requires) c.self.invariant

pub returns : goal.returns
returns c =
    let i = c.self.inside in
    let k : KeptWorld = world_of i.hosts.items i.editors.items i.owners.items in
    let next : KeptHost → KeptHost = λ h. record h { state = (serve h.state (EditorBegan c.args.n)).state } in
    let runs = ap (λ (w : KeptWorld). is_some (running w c.args.d)) c.self.view_is ∙ c.requires in
    let at = host_stands k c.args.d c.index_mut.result.now c.in-Some.host runs c.index_mut.ensures.value c.in-Some.is in
    subst (λ (w : KeptWorld). OnOk c.begin.result ((h : KeptHost) → running w c.args.d ≡ Some h → with_host k c.args.d c.begin.new.self ≡ with_host w c.args.d (next h))) c.self.view_is
    (host_made c.begin.result k c.args.d c.begin.new.self c.in-Some.host next at c.begin.ensures.ok)
