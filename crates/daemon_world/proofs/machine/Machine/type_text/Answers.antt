use Rattle.std.proofs.Common.{◌≡◌, Some, true, is_some, OnOk, ap, ◌∙◌, subst}
use Rattle.editor_client.specs.Editor.{change_at}
use Rattle.frame_world.specs.Seats.{typed}
use Rattle.kept_world.specs.Moves.{IsTyped}
use Rattle.kept_world.specs.Steps.{types, quietly}
use Rattle.kept_world.specs.Worlds.{KeptEditor, KeptWorld, editor_of, with_editor}
use Rattle.daemon_world.specs.Order.{IsOrderly}
use Rattle.daemon_world.specs.Worlds.{world_of}
use Rattle.daemon_world.proofs.OwnMoveLemmas.{stands, types_there, typed_in_order, same_in_order, either, typed_made}
use Rattle.daemon_world.proofs.machine.Machine.type_text.Goals as goal

pub invariant_of-self : goal.invariant_of-self
invariant_of-self c =
    let i = c.self.inside in
    let k : KeptWorld = world_of i.hosts.items i.editors.items i.owners.items in
    let x = c.index_mut.result.now in
    let a = c.args in
    let possible : is_some (types k a.e a.place a.gone a.text.now) ≡ true = ap (λ (w : KeptWorld). is_some (types w a.e a.place a.gone a.text.now)) c.self.view_is ∙ c.requires in
    let at : editor_of k a.e ≡ Some x = stands i.editors.items a.e x (types_there k a.e a.place a.gone a.text.now possible) c.index_mut.ensures.value in
    either c.type_in.result (λ (z : KeptEditor). IsOrderly (with_editor k a.e z) i.owners.items) c.type_in.new.editor
    (record x { seat = typed (change_at a.place a.gone a.text.now) x.seat }) x c.type_in.ensures.ok c.type_in.ensures.err
    (typed_in_order k i.owners.items a.e (change_at a.place a.gone a.text.now) x at c.self.invariant)
    (same_in_order k i.owners.items a.e x at c.self.invariant)

pub returns : goal.returns
returns c =
    let i = c.self.inside in
    let k : KeptWorld = world_of i.hosts.items i.editors.items i.owners.items in
    let x = c.index_mut.result.now in
    let a = c.args in
    let possible : is_some (types k a.e a.place a.gone a.text.now) ≡ true = ap (λ (w : KeptWorld). is_some (types w a.e a.place a.gone a.text.now)) c.self.view_is ∙ c.requires in
    let at : editor_of k a.e ≡ Some x = stands i.editors.items a.e x (types_there k a.e a.place a.gone a.text.now possible) c.index_mut.ensures.value in
    subst (λ (w : KeptWorld). OnOk c.type_in.result (IsTyped w a.e a.place a.gone a.text.now (quietly (with_editor k a.e c.type_in.new.editor)))) c.self.view_is
    (typed_made c.type_in.result k a.e a.place a.gone a.text.now x c.type_in.new.editor at possible c.type_in.ensures.ok c.type_in.ensures.tells)
