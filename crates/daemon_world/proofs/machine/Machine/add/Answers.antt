use Rattle.std.proofs.Common.{◌≡◌, List, ◌∷◌, [], ◌++◌, Some, is_some, length, refl, sym, ap, ◌∙◌, subst, arith}
use Rattle.kept_world.specs.Worlds.{KeptEditor, KeptWorld, next_connection, running}
use Rattle.daemon_world.specs.Order.{IsOrderly}
use Rattle.daemon_world.specs.Worlds.{world_of}
use Rattle.daemon_world.proofs.OrderLemmas.{among, editor_joined}
use Rattle.daemon_world.proofs.machine.Machine.add.Goals as goal

pub invariant_of-self-2 : goal.invariant_of-self-2
invariant_of-self-2 c =
    let i = c.self.inside in
    let owners = i.owners.items in
    let k : KeptWorld = world_of i.hosts.items i.editors.items owners in
    let y : KeptEditor = c.args.editor in
    let later = c.push_reserved.new.self.items in
    let e : c.len-e.result ≡ length i.editors.items = omega (arith, c.len-e.ensures, i.editors.ok.0) in
    let more : later ≡ owners ++ length k.editors ∷ [] =
    c.push_reserved.ensures.items ∙ ap (λ xs. xs ++ c.len-e.result ∷ []) c.in_ok-reserve.ensures.items ∙ ap (λ n. owners ++ n ∷ []) e in
    let editors_are : c.push_reserved-2.new.self.items ≡ i.editors.items ++ y ∷ [] =
    c.push_reserved-2.ensures.items ∙ ap (λ xs. xs ++ y ∷ []) c.in_ok-reserve-2.ensures.items in
    let on = c.requires.connection ∙ ap (λ (w : KeptWorld). Some (next_connection w)) (sym c.self.view_is) in
    let runs = ap (λ (w : KeptWorld). is_some (running w y.daemon)) c.self.view_is ∙ c.requires.runs in
    let last = editor_joined k owners (next_connection k) y on refl runs c.self.invariant in
    let l : KeptWorld = world_of i.hosts.items (i.editors.items ++ y ∷ []) later in
    subst (λ (es : List KeptEditor). IsOrderly (world_of i.hosts.items es later) later) (sym editors_are)
    (subst (IsOrderly l) (sym more) (among (record k { editors = k.editors ++ y ∷ [] }) l (owners ++ length k.editors ∷ []) refl (λ d ran. ran) last))
