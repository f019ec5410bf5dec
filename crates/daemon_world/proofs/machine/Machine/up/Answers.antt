use Rattle.std.proofs.Common.{◌≡◌, true, is_some, Some, refl, sym, subst, string_bytes}
use Rattle.daemon_core.specs.declared.events.Event.TheVariants.{EditorFrame}
use Rattle.kept_world.specs.Events.{KeptPlayed, IsEvent}
use Rattle.kept_world.specs.Moves.{IsUp, has_up}
use Rattle.kept_world.specs.Worlds.{KeptEditor, KeptWorld, running, editor_of, with_editor}
use Rattle.daemon_world.specs.Worlds.{world_of}
use Rattle.daemon_world.proofs.DeliveryLemmas.{up_sits, up_some, up_connected, up_runs, taken_in_order, up_made}
use Rattle.daemon_world.proofs.OrderLemmas.{sits_at}
use Rattle.daemon_world.proofs.machine.Machine.up.Goals as goal

pub unreachable-requires : goal.unreachable-requires
unreachable-requires c =
    let k : KeptWorld = world_of c.self.inside.hosts.items c.self.inside.editors.items c.self.inside.owners.items in
    let x : KeptEditor = c.index_mut-editor.result.now in
    let has : has_up (editor_of k c.args.e) ≡ true = subst (λ (v : KeptWorld). has_up (editor_of v c.args.e) ≡ true) (sym c.self.view_is) c.requires in
    let at : editor_of k c.args.e ≡ Some x = sits_at k c.args.e x (up_sits (editor_of k c.args.e) has) c.index_mut-editor.ensures.value in
    up_connected k c.self.inside.owners.items c.args.e x c.self.invariant at has (sym c.in_default.ensures)

pub unreachable-requires-in_default-take_up : goal.unreachable-requires-in_default-take_up
unreachable-requires-in_default-take_up c =
    let k : KeptWorld = world_of c.self.inside.hosts.items c.self.inside.editors.items c.self.inside.owners.items in
    let x : KeptEditor = c.index_mut-editor.result.now in
    let has : has_up (editor_of k c.args.e) ≡ true = subst (λ (v : KeptWorld). has_up (editor_of v c.args.e) ≡ true) (sym c.self.view_is) c.requires in
    let at : editor_of k c.args.e ≡ Some x = sits_at k c.args.e x (up_sits (editor_of k c.args.e) has) c.index_mut-editor.ensures.value in
    up_some k c.args.e x at has (c.in_default-take_up.ensures.none.0 refl)

pub invariant_of-self : goal.invariant_of-self
invariant_of-self c =
    let k : KeptWorld = world_of c.self.inside.hosts.items c.self.inside.editors.items c.self.inside.owners.items in
    let x : KeptEditor = c.index_mut-editor.result.now in
    let has : has_up (editor_of k c.args.e) ≡ true = subst (λ (v : KeptWorld). has_up (editor_of v c.args.e) ≡ true) (sym c.self.view_is) c.requires in
    let at : editor_of k c.args.e ≡ Some x = sits_at k c.args.e x (up_sits (editor_of k c.args.e) has) c.index_mut-editor.ensures.value in
    taken_in_order k c.self.inside.owners.items c.args.e c.in-Some.n x c.take_up.new.self (record x.seat { up = c.take_up.new.self.seat.up }) at (sym c.in-Some.ensures)
    c.in-Some-take_up.ensures.rest c.self.invariant

pub handle-requires : goal.handle-requires
handle-requires c =
    let k : KeptWorld = world_of c.self.inside.hosts.items c.self.inside.editors.items c.self.inside.owners.items in
    let x : KeptEditor = c.index_mut-editor.result.now in
    let has : has_up (editor_of k c.args.e) ≡ true = subst (λ (v : KeptWorld). has_up (editor_of v c.args.e) ≡ true) (sym c.self.view_is) c.requires in
    let at : editor_of k c.args.e ≡ Some x = sits_at k c.args.e x (up_sits (editor_of k c.args.e) has) c.index_mut-editor.ensures.value in
    subst (λ d. is_some (running (with_editor k c.args.e c.take_up.new.self) d) ≡ true) (sym c.daemon-d.ensures)
    (up_runs k c.self.inside.owners.items c.args.e c.in-Some.n x c.take_up.new.self c.self.invariant at (sym c.in-Some.ensures))

pub returns : goal.returns
returns c =
    let k : KeptWorld = world_of c.self.inside.hosts.items c.self.inside.editors.items c.self.inside.owners.items in
    let x : KeptEditor = c.index_mut-editor.result.now in
    let has : has_up (editor_of k c.args.e) ≡ true = subst (λ (v : KeptWorld). has_up (editor_of v c.args.e) ≡ true) (sym c.self.view_is) c.requires in
    let at : editor_of k c.args.e ≡ Some x = sits_at k c.args.e x (up_sits (editor_of k c.args.e) has) c.index_mut-editor.ensures.value in
    let p : KeptPlayed = record { world = c.handle.new.self; printed = string_bytes c.in_ok-lines.lines } in
    subst (λ (v : KeptWorld). IsUp v c.args.e p) c.self.view_is
    (up_made k c.args.e c.in-Some.n x c.take_up.new.self c.in-Some-take_up.body p at (sym c.in-Some.ensures) c.in-Some-take_up.ensures.body c.in-Some-take_up.ensures.rest
    (subst (λ d. IsEvent (with_editor k c.args.e c.take_up.new.self) d (EditorFrame c.in-Some.n c.in-Some-take_up.body) p) c.daemon-d.ensures c.in_ok-lines.ensures))
