use Rattle.std.proofs.Common.{◌≡◌, true, Some, sym, subst, string_bytes}
use Rattle.kept_world.specs.Moves.{IsDown, has_down}
use Rattle.kept_world.specs.Worlds.{KeptEditor, KeptWorld, editor_of, with_editor}
use Rattle.daemon_world.specs.Worlds.{world_of}
use Rattle.daemon_world.proofs.DeliveryLemmas.{down_sits, delivered_in_order, down_made}
use Rattle.daemon_world.proofs.OrderLemmas.{sits_at}
use Rattle.daemon_world.proofs.machine.Machine.down.Goals as goal

pub invariant_of-self-in_err-line : goal.invariant_of-self-in_err-line
invariant_of-self-in_err-line c =
    let k : KeptWorld = world_of c.self.inside.hosts.items c.self.inside.editors.items c.self.inside.owners.items in
    let x : KeptEditor = c.index_mut-editor.result.now in
    let has : has_down (editor_of k c.args.e) ≡ true = subst (λ (v : KeptWorld). has_down (editor_of v c.args.e) ≡ true) (sym c.self.view_is) c.requires in
    let at : editor_of k c.args.e ≡ Some x = sits_at k c.args.e x (down_sits (editor_of k c.args.e) has) c.index_mut-editor.ensures.value in
    delivered_in_order k c.self.inside.owners.items c.args.e x c.deliver_to.new.editor c.in_ok-note.note at c.in_ok-note.ensures.rest c.in_ok-note.ensures.delivered c.self.invariant

pub invariant_of-self-2 : goal.invariant_of-self-2
invariant_of-self-2 c =
    let k : KeptWorld = world_of c.self.inside.hosts.items c.self.inside.editors.items c.self.inside.owners.items in
    let x : KeptEditor = c.index_mut-editor.result.now in
    let has : has_down (editor_of k c.args.e) ≡ true = subst (λ (v : KeptWorld). has_down (editor_of v c.args.e) ≡ true) (sym c.self.view_is) c.requires in
    let at : editor_of k c.args.e ≡ Some x = sits_at k c.args.e x (down_sits (editor_of k c.args.e) has) c.index_mut-editor.ensures.value in
    delivered_in_order k c.self.inside.owners.items c.args.e x c.deliver_to.new.editor c.in_ok-note.note at c.in_ok-note.ensures.rest c.in_ok-note.ensures.delivered c.self.invariant

pub returns : goal.returns
returns c =
    let k : KeptWorld = world_of c.self.inside.hosts.items c.self.inside.editors.items c.self.inside.owners.items in
    let x : KeptEditor = c.index_mut-editor.result.now in
    let has : has_down (editor_of k c.args.e) ≡ true = subst (λ (v : KeptWorld). has_down (editor_of v c.args.e) ≡ true) (sym c.self.view_is) c.requires in
    let at : editor_of k c.args.e ≡ Some x = sits_at k c.args.e x (down_sits (editor_of k c.args.e) has) c.index_mut-editor.ensures.value in
    subst (λ (v : KeptWorld). IsDown v c.args.e (record { world = with_editor k c.args.e c.deliver_to.new.editor; printed = string_bytes c.in_ok-line.line })) c.self.view_is
    (down_made k c.args.e x c.deliver_to.new.editor c.in_ok-note.note (string_bytes c.in_ok-line.line) at c.in_ok-note.ensures.rest c.in_ok-note.ensures.delivered c.in_ok-line.ensures.line)
