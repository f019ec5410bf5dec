use Rattle.std.proofs.Common.{◌≡◌, Some, true, is_some, OnOk, sym, ap, ◌∙◌, subst}
use Rattle.frame_world.specs.Seats.{opened}
use Rattle.kept_world.specs.Moves.{IsOpened}
use Rattle.kept_world.specs.Steps.{opens, quietly}
use Rattle.kept_world.specs.Worlds.{KeptEditor, KeptWorld, editor_of, with_editor}
use Rattle.daemon_world.specs.Order.{IsOrderly}
use Rattle.daemon_world.specs.Worlds.{world_of}
use Rattle.daemon_world.proofs.OwnMoveLemmas.{stands, opens_editor, connected_in_order, same_in_order, either, opened_made}
use Rattle.daemon_world.proofs.machine.Machine.open_again.Goals as goal

pub invariant_of-self : goal.invariant_of-self
invariant_of-self c =
    let i = c.self.inside in
    let k : KeptWorld = world_of i.hosts.items i.editors.items i.owners.items in
    let x = c.index_mut.result.now in
    let possible : is_some (opens k c.args.e) ≡ true = ap (λ (w : KeptWorld). is_some (opens w c.args.e)) c.self.view_is ∙ c.requires.possible in
    let at : editor_of k c.args.e ≡ Some x = stands i.editors.items c.args.e x (opens_editor k c.args.e possible) c.index_mut.ensures.value in
    let connected : is_some x.connection ≡ true = c.requires.connected x (ap (λ (w : KeptWorld). editor_of w c.args.e) (sym c.self.view_is) ∙ at) in
    either c.open_in.result (λ (z : KeptEditor). IsOrderly (with_editor k c.args.e z) i.owners.items) c.open_in.new.editor (record x { seat = opened x.seat }) x
    c.open_in.ensures.ok c.open_in.ensures.err
    (connected_in_order k i.owners.items c.args.e x (opened x.seat) at connected c.self.invariant)
    (same_in_order k i.owners.items c.args.e x at c.self.invariant)

pub returns : goal.returns
returns c =
    let i = c.self.inside in
    let k : KeptWorld = world_of i.hosts.items i.editors.items i.owners.items in
    let x = c.index_mut.result.now in
    let possible : is_some (opens k c.args.e) ≡ true = ap (λ (w : KeptWorld). is_some (opens w c.args.e)) c.self.view_is ∙ c.requires.possible in
    let at : editor_of k c.args.e ≡ Some x = stands i.editors.items c.args.e x (opens_editor k c.args.e possible) c.index_mut.ensures.value in
    let connected : is_some x.connection ≡ true = c.requires.connected x (ap (λ (w : KeptWorld). editor_of w c.args.e) (sym c.self.view_is) ∙ at) in
    subst (λ (w : KeptWorld). OnOk c.open_in.result (IsOpened w c.args.e (quietly (with_editor k c.args.e c.open_in.new.editor)))) c.self.view_is
    (opened_made c.open_in.result k c.args.e x c.open_in.new.editor at possible connected c.open_in.ensures.ok c.open_in.ensures.read)
