use Rattle.std.proofs.Common.{◌<◌, length, arith, rules, [], ◌∷◌, ◌++◌, sym, ap, ◌∙◌, subst}
use Rattle.std.proofs.lemmas.Option.{slice_get_within}
use Rattle.std.proofs.lemmas.Grind.{common_steps}
use Rattle.daemon_core.specs.declared.events.Output.TheVariants.{Send}
use Rattle.kept_world.specs.Worlds.{KeptEditor, KeptWorld, with_editor}
use Rattle.daemon_world.specs.Serving.{HasReceiver, told}
use Rattle.daemon_world.specs.Worlds.{world_of}
use Rattle.daemon_world.proofs.DeliveryLemmas.{taken_in_order}
use Rattle.daemon_world.proofs.SendingLemmas.{told_to_nobody, told_to_one}
use Rattle.daemon_world.proofs.ReceiverLemmas.{Found, found_at}
use Rattle.daemon_world.proofs.machine.Machine.receive.Goals as goal

pub returns-in_default : goal.returns-in_default
returns-in_default c = sym (told_to_nobody c.args.self.now c.args.d c.args.n c.args.frame c.in_default.ensures.none.nobody)

pub index_mut-editor-requires : goal.index_mut-editor-requires
index_mut-editor-requires c =
    let k : KeptWorld = world_of c.self.inside.hosts.items c.self.inside.editors.items c.self.inside.owners.items in
    let has : HasReceiver k c.args.d c.args.n c.in-Some.e = subst (λ (v : KeptWorld). HasReceiver v c.args.d c.args.n c.in-Some.e) (sym c.self.view_is) c.in-Some.ensures.some in
    let within : c.in-Some.e < length c.self.inside.editors.items = slice_get_within c.self.inside.editors.items c.in-Some.e has.editor has.there in
    first_of (omega arith, search rules, grind (arith, common_steps, within), omega (arith, c.self.inside.editors.ok))

pub invariant_of-self-2 : goal.invariant_of-self-2
invariant_of-self-2 c =
    let k : KeptWorld = world_of c.self.inside.hosts.items c.self.inside.editors.items c.self.inside.owners.items in
    let has : HasReceiver k c.args.d c.args.n c.in-Some.e = subst (λ (v : KeptWorld). HasReceiver v c.args.d c.args.n c.in-Some.e) (sym c.self.view_is) c.in-Some.ensures.some in
    let x : KeptEditor = c.index_mut-editor.result.now in
    let at : Found k c.args.d c.args.n c.in-Some.e x = found_at k c.args.d c.args.n c.in-Some.e x has c.index_mut-editor.ensures.value in
    taken_in_order k c.self.inside.owners.items c.in-Some.e c.args.n x c.receive.new.self (record x.seat { down = x.seat.down ++ c.args.frame ∷ [] }) at.there at.connection
    c.in_ok-receive.ensures.ok c.self.invariant

pub returns : goal.returns
returns c =
    let k : KeptWorld = world_of c.self.inside.hosts.items c.self.inside.editors.items c.self.inside.owners.items in
    let has : HasReceiver k c.args.d c.args.n c.in-Some.e = subst (λ (v : KeptWorld). HasReceiver v c.args.d c.args.n c.in-Some.e) (sym c.self.view_is) c.in-Some.ensures.some in
    let x : KeptEditor = c.index_mut-editor.result.now in
    let at : Found k c.args.d c.args.n c.in-Some.e x = found_at k c.args.d c.args.n c.in-Some.e x has c.index_mut-editor.ensures.value in
    ap (λ (y : KeptEditor). with_editor k c.in-Some.e y) c.in_ok-receive.ensures.ok
    ∙ sym (told_to_one k c.self.inside.owners.items c.args.d c.args.n c.in-Some.e c.args.frame x c.self.invariant at.there at.daemon at.connection)
    ∙ ap (λ (v : KeptWorld). told v c.args.d (Send c.args.n c.args.frame ∷ [])) c.self.view_is
