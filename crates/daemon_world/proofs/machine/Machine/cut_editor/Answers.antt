use Rattle.std.proofs.Common.{◌≡◌, Some, is_some, sym, ap, ◌∙◌, subst}
use Rattle.kept_world.specs.Worlds.{KeptEditor, KeptWorld, editor_of, with_editor, cut_off}
use Rattle.daemon_world.specs.Order.{IsOrderly}
use Rattle.daemon_world.specs.Worlds.{world_of}
use Rattle.daemon_world.proofs.OrderLemmas.{there, editor_cut}
use Rattle.daemon_world.proofs.OwnMoveLemmas.{stands, one_there}
use Rattle.daemon_world.proofs.machine.Machine.cut_editor.Goals as goal

pub invariant_of-self : goal.invariant_of-self
invariant_of-self c =
    let i = c.self.inside in
    let k : KeptWorld = world_of i.hosts.items i.editors.items i.owners.items in
    subst (λ (z : KeptEditor). IsOrderly (with_editor k c.args.e z) i.owners.items) (sym c.cut.ensures)
    (editor_cut k i.owners.items c.args.e c.index_mut.result.now c.self.invariant)

pub returns : goal.returns
returns c =
    let i = c.self.inside in
    let k : KeptWorld = world_of i.hosts.items i.editors.items i.owners.items in
    let x = c.index_mut.result.now in
    let stood = there (editor_of k c.args.e) (ap (λ (w : KeptWorld). is_some (editor_of w c.args.e)) c.self.view_is ∙ c.requires) in
    let at = stands i.editors.items c.args.e x stood c.index_mut.ensures.value in
    subst (λ (w : KeptWorld). (z : KeptEditor) → editor_of w c.args.e ≡ Some z → with_editor k c.args.e c.cut.new.self ≡ with_editor w c.args.e (cut_off z)) c.self.view_is
    (λ z also. ap (with_editor k c.args.e) (c.cut.ensures ∙ ap cut_off (one_there (editor_of k c.args.e) x z at also)))
