use Rattle.std.proofs.Common.{◌≡◌, ◌+◌, ◌∷◌, [], ◌++◌, Some, is_some, refl, sym, ap, ◌∙◌, subst}
use Rattle.editor_client.specs.Requests.{open_request}
use Rattle.frame_world.specs.Laws.{IsReadBack}
use Rattle.frame_world.specs.Seats.{opened}
use Rattle.kept_world.specs.Worlds.{KeptEditor, KeptWorld, next_connection, running, editor_of, with_editor}
use Rattle.daemon_world.specs.Order.{IsOrderly}
use Rattle.daemon_world.specs.Worlds.{world_of}
use Rattle.daemon_world.proofs.OrderLemmas.{there, among, editor_connected}
use Rattle.daemon_world.proofs.OwnMoveLemmas.{stands, one_there, connected_made}
use Rattle.daemon_world.proofs.machine.Machine.connect.Goals as goal

pub invariant_of-self-2 : goal.invariant_of-self-2
invariant_of-self-2 c =
    let i = c.self.inside in
    let owners = i.owners.items in
    let k : KeptWorld = world_of i.hosts.items i.editors.items owners in
    let x = c.index_mut.result.now in
    let y : KeptEditor = record x { connection = Some c.args.n; seat = opened x.seat } in
    let later = c.push_reserved.new.self.items in
    let more : later ≡ owners ++ c.args.e ∷ [] = c.push_reserved.ensures.items ∙ ap (λ xs. xs ++ c.args.e ∷ []) c.in_ok-reserve.ensures.items in
    let stood = there (editor_of k c.args.e) (ap (λ (w : KeptWorld). is_some (editor_of w c.args.e)) c.self.view_is ∙ c.requires.there) in
    let at : editor_of k c.args.e ≡ Some x = stands i.editors.items c.args.e x stood c.index_mut.ensures.value in
    let runs = ap (λ (w : KeptWorld). is_some (running w x.daemon)) c.self.view_is ∙ c.requires.runs x (ap (λ (w : KeptWorld). editor_of w c.args.e) (sym c.self.view_is) ∙ at) in
    let number = c.requires.number ∙ ap next_connection (sym c.self.view_is) in
    let last = editor_connected k owners c.args.e c.args.n y refl number runs c.self.invariant in
    let l : KeptWorld = world_of i.hosts.items (with_editor k c.args.e y).editors later in
    subst (λ (z : KeptEditor). IsOrderly (world_of i.hosts.items (with_editor k c.args.e z).editors later) later) (sym c.in_ok-open_on_in.ensures.ok)
    (subst (IsOrderly l) (sym more) (among (with_editor k c.args.e y) l (owners ++ c.args.e ∷ []) refl (λ d ran. ran) last))

pub returns-clause-world : goal.returns-clause-world
returns-clause-world c =
    let i = c.self.inside in
    let owners = i.owners.items in
    let k : KeptWorld = world_of i.hosts.items i.editors.items owners in
    let x = c.index_mut.result.now in
    let y = c.open_on_in.new.editor in
    let later = c.push_reserved.new.self.items in
    let more : later ≡ owners ++ c.args.e ∷ [] = c.push_reserved.ensures.items ∙ ap (λ xs. xs ++ c.args.e ∷ []) c.in_ok-reserve.ensures.items in
    let stood = there (editor_of k c.args.e) (ap (λ (w : KeptWorld). is_some (editor_of w c.args.e)) c.self.view_is ∙ c.requires.there) in
    let at : editor_of k c.args.e ≡ Some x = stands i.editors.items c.args.e x stood c.index_mut.ensures.value in
    subst (λ (w : KeptWorld). (z : KeptEditor) → editor_of w c.args.e ≡ Some z → world_of i.hosts.items (with_editor k c.args.e y).editors later
    ≡ with_editor (record w { connections = w.connections + 1 }) c.args.e (record z { connection = Some c.args.n; seat = opened z.seat })) c.self.view_is
    (connected_made k owners later c.args.e c.args.n x y at more refl c.in_ok-open_on_in.ensures.ok)

pub returns-clause-read : goal.returns-clause-read
returns-clause-read c =
    let i = c.self.inside in
    let k : KeptWorld = world_of i.hosts.items i.editors.items i.owners.items in
    let x = c.index_mut.result.now in
    let stood = there (editor_of k c.args.e) (ap (λ (w : KeptWorld). is_some (editor_of w c.args.e)) c.self.view_is ∙ c.requires.there) in
    let at : editor_of k c.args.e ≡ Some x = stands i.editors.items c.args.e x stood c.index_mut.ensures.value in
    subst (λ (w : KeptWorld). (z : KeptEditor) → editor_of w c.args.e ≡ Some z → IsReadBack z.seat.client (open_request z.seat.client)) c.self.view_is
    (λ z also. subst (λ (q : KeptEditor). IsReadBack q.seat.client (open_request q.seat.client)) (one_there (editor_of k c.args.e) x z at also) c.in_ok-open_on_in.ensures.read)
