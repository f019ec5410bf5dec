use Rattle.std.proofs.Common.{◌≡◌, Some, true, is_some, OnOk, ap, ◌∙◌, subst}
use Rattle.frame_world.specs.Seats.{closed}
use Rattle.kept_world.specs.Moves.{IsClosed}
use Rattle.kept_world.specs.Steps.{closes, quietly}
use Rattle.kept_world.specs.Worlds.{KeptEditor, KeptWorld, editor_of, with_editor}
use Rattle.daemon_world.specs.Order.{IsOrderly}
use Rattle.daemon_world.specs.Worlds.{world_of}
use Rattle.daemon_world.proofs.OwnMoveLemmas.{stands, closes_there, closes_where, connected_in_order, same_in_order, either, closed_made}
use Rattle.daemon_world.proofs.machine.Machine.close.Goals as goal

pub invariant_of-self : goal.invariant_of-self
invariant_of-self c =
    let i = c.self.inside in
    let k : KeptWorld = world_of i.hosts.items i.editors.items i.owners.items in
    let x = c.index_mut.result.now in
    let possible : is_some (closes k c.args.e) ≡ true = ap (λ (w : KeptWorld). is_some (closes w c.args.e)) c.self.view_is ∙ c.requires in
    let at : editor_of k c.args.e ≡ Some x = stands i.editors.items c.args.e x (closes_there k c.args.e possible) c.index_mut.ensures.value in
    either c.close_in.result (λ (z : KeptEditor). IsOrderly (with_editor k c.args.e z) i.owners.items) c.close_in.new.editor (record x { seat = closed x.seat }) x
    c.close_in.ensures.ok c.close_in.ensures.err
    (connected_in_order k i.owners.items c.args.e x (closed x.seat) at (closes_where k c.args.e x at possible).0 c.self.invariant)
    (same_in_order k i.owners.items c.args.e x at c.self.invariant)

pub returns : goal.returns
returns c =
    let i = c.self.inside in
    let k : KeptWorld = world_of i.hosts.items i.editors.items i.owners.items in
    let x = c.index_mut.result.now in
    let possible : is_some (closes k c.args.e) ≡ true = ap (λ (w : KeptWorld). is_some (closes w c.args.e)) c.self.view_is ∙ c.requires in
    let at : editor_of k c.args.e ≡ Some x = stands i.editors.items c.args.e x (closes_there k c.args.e possible) c.index_mut.ensures.value in
    subst (λ (w : KeptWorld). OnOk c.close_in.result (IsClosed w c.args.e (quietly (with_editor k c.args.e c.close_in.new.editor)))) c.self.view_is
    (closed_made c.close_in.result k c.args.e x c.close_in.new.editor at possible c.close_in.ensures.ok c.close_in.ensures.read)
