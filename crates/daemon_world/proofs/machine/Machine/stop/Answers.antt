use Rattle.std.proofs.Common.{◌≡◌, List, ◌++◌, length, take, drop, map, None, slice_set, sym, ap, ◌∙◌, subst}
use Rattle.kept_world.specs.Worlds.{KeptEditor, KeptWorld, lost_with}
use Rattle.daemon_world.specs.Order.{IsOrderly}
use Rattle.daemon_world.specs.Worlds.{world_of}
use Rattle.daemon_world.proofs.OrderLemmas.{daemon_stopped, written_back}
use Rattle.daemon_world.proofs.machine.Machine.stop.Goals as goal

pub invariant_of-self : goal.invariant_of-self
invariant_of-self c =
    let k : KeptWorld = world_of c.self.inside.hosts.items c.self.inside.editors.items c.self.inside.owners.items in
    let lost : c.lose_all.new.editors ≡ map (lost_with c.args.d) c.self.inside.editors.items = c.lose_all.ensures ∙ ap (map (lost_with c.args.d)) c.deref_mut.ensures.value in
    let back : take c.self.inside.editors.len (c.lose_all.new.editors ++ drop (length c.lose_all.new.editors) c.self.inside.editors.items) ≡ map (lost_with c.args.d) c.self.inside.editors.items =
    written_back (lost_with c.args.d) c.self.inside.editors.items c.lose_all.new.editors c.self.inside.editors.len lost (sym c.deref_mut.ensures.len ∙ ap length c.deref_mut.ensures.value) in
    subst (λ (es : List KeptEditor). IsOrderly (world_of (slice_set c.self.inside.hosts.items c.args.d None) es c.self.inside.owners.items) c.self.inside.owners.items) (sym back)
    (daemon_stopped k c.self.inside.owners.items c.args.d c.self.invariant)
