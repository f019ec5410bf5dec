use Rattle.std.proofs.Common.{◌≡◌, ◌-◌, ◌≤◌, length, Some, None, sym, ap, ◌∙◌, subst, arith}
use Rattle.std.specs.Prelude.{slice_get}
use Rattle.bridge_world.proofs.RoomLemmas.{got}
use Rattle.plain_world.specs.declared.TheConstants.{FIRST_OWN}
use Rattle.kept_world.specs.Worlds.{KeptWorld}
use Rattle.daemon_world.specs.Serving.{HasNobody, HasReceiver}
use Rattle.daemon_world.specs.Worlds.{world_of}
use Rattle.daemon_world.proofs.ReceiverLemmas.{nobody_on_new, nobody_there, nobody_else}
use Rattle.daemon_world.proofs.machine.Machine.receiver.Goals as goal

pub returns-then-n-lt-FIRST_OWN-clause-none : goal.returns-then-n-lt-FIRST_OWN-clause-none
returns-then-n-lt-FIRST_OWN-clause-none c = c.settled.ensures c.args.d c.args.n c.if-n-lt-FIRST_OWN.true

pub returns-then-place-len-clause-none : goal.returns-then-place-len-clause-none
returns-then-place-len-clause-none c =
    let k : KeptWorld = world_of c.self.inside.hosts.items c.self.inside.editors.items c.self.inside.owners.items in
    let past : length c.self.inside.owners.items ≤ c.args.n - FIRST_OWN = omega (arith, c.len.ensures) in
    subst (λ (v : KeptWorld). HasNobody v c.args.d c.args.n) c.self.view_is (nobody_on_new k c.self.inside.owners.items c.args.d c.args.n c.self.invariant past)

pub returns-then-e-len-clause-none : goal.returns-then-e-len-clause-none
returns-then-e-len-clause-none c =
    let k : KeptWorld = world_of c.self.inside.hosts.items c.self.inside.editors.items c.self.inside.owners.items in
    let mine : slice_get c.self.inside.owners.items (c.args.n - FIRST_OWN) ≡ Some c.index.result.now = got c.self.inside.owners.items (c.args.n - FIRST_OWN) c.index.result.now (omega (arith, c.len.ensures)) c.index.ensures in
    let past : length c.self.inside.editors.items ≤ c.index.result.now = omega (arith, c.len-2.ensures) in
    subst (λ (v : KeptWorld). HasNobody v c.args.d c.args.n) c.self.view_is
    (nobody_there k c.self.inside.owners.items c.args.d c.args.n c.index.result.now c.self.invariant mine past)

pub returns-in_default-clause-none : goal.returns-in_default-clause-none
returns-in_default-clause-none c =
    let k : KeptWorld = world_of c.self.inside.hosts.items c.self.inside.editors.items c.self.inside.owners.items in
    let mine : slice_get c.self.inside.owners.items (c.args.n - FIRST_OWN) ≡ Some c.index.result.now = got c.self.inside.owners.items (c.args.n - FIRST_OWN) c.index.result.now (omega (arith, c.len.ensures)) c.index.ensures in
    let at : slice_get c.self.inside.editors.items c.index.result.now ≡ Some c.index-editor.result.now = got c.self.inside.editors.items c.index.result.now c.index-editor.result.now (omega (arith, c.len-2.ensures)) c.index-editor.ensures in
    subst (λ (v : KeptWorld). HasNobody v c.args.d c.args.n) c.self.view_is
    (nobody_else k c.self.inside.owners.items c.args.d c.args.n c.index.result.now c.index-editor.result.now c.self.invariant mine at
    (λ here on. let no : None ≡ Some c.args.n = c.in_default.ensures ∙ on in cc))

pub returns-then-own-n-clause-none : goal.returns-then-own-n-clause-none
returns-then-own-n-clause-none c =
    let k : KeptWorld = world_of c.self.inside.hosts.items c.self.inside.editors.items c.self.inside.owners.items in
    let mine : slice_get c.self.inside.owners.items (c.args.n - FIRST_OWN) ≡ Some c.index.result.now = got c.self.inside.owners.items (c.args.n - FIRST_OWN) c.index.result.now (omega (arith, c.len.ensures)) c.index.ensures in
    let at : slice_get c.self.inside.editors.items c.index.result.now ≡ Some c.index-editor.result.now = got c.self.inside.editors.items c.index.result.now c.index-editor.result.now (omega (arith, c.len-2.ensures)) c.index-editor.ensures in
    subst (λ (v : KeptWorld). HasNobody v c.args.d c.args.n) c.self.view_is
    (nobody_else k c.self.inside.owners.items c.args.d c.args.n c.index.result.now c.index-editor.result.now c.self.invariant mine at
    (λ here on.
    let both : Some c.in-Some.own ≡ Some c.args.n = c.in-Some.ensures ∙ on in
    let one : c.in-Some.own ≡ c.args.n = cc in c.if-own-n.true one))

pub returns-then-daemon-d-clause-none : goal.returns-then-daemon-d-clause-none
returns-then-daemon-d-clause-none c =
    let k : KeptWorld = world_of c.self.inside.hosts.items c.self.inside.editors.items c.self.inside.owners.items in
    let mine : slice_get c.self.inside.owners.items (c.args.n - FIRST_OWN) ≡ Some c.index.result.now = got c.self.inside.owners.items (c.args.n - FIRST_OWN) c.index.result.now (omega (arith, c.len.ensures)) c.index.ensures in
    let at : slice_get c.self.inside.editors.items c.index.result.now ≡ Some c.index-editor.result.now = got c.self.inside.editors.items c.index.result.now c.index-editor.result.now (omega (arith, c.len-2.ensures)) c.index-editor.ensures in
    subst (λ (v : KeptWorld). HasNobody v c.args.d c.args.n) c.self.view_is
    (nobody_else k c.self.inside.owners.items c.args.d c.args.n c.index.result.now c.index-editor.result.now c.self.invariant mine at
    (λ here on. c.if-daemon-d.true (c.daemon.ensures ∙ here)))

pub returns-clause-some : goal.returns-clause-some
returns-clause-some c =
    let k : KeptWorld = world_of c.self.inside.hosts.items c.self.inside.editors.items c.self.inside.owners.items in
    let at : slice_get c.self.inside.editors.items c.index.result.now ≡ Some c.index-editor.result.now = got c.self.inside.editors.items c.index.result.now c.index-editor.result.now (omega (arith, c.len-2.ensures)) c.index-editor.ensures in
    subst (λ (v : KeptWorld). HasReceiver v c.args.d c.args.n c.index.result.now) c.self.view_is
    (record {
      editor = c.index-editor.result.now;
      there = at;
      daemon = sym c.daemon.ensures ∙ c.if-daemon-d.false;
      connection = sym c.in-Some.ensures ∙ ap Some c.if-own-n.false;
    })
