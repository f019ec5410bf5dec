use Rattle.std.proofs.Common.{◌≡◌, List, ℕ, Some, is_some, refl, sym, ap, ◌∙◌, subst}
use Rattle.daemon_core.specs.Outputs.{serve}
use Rattle.daemon_core.specs.declared.events.Event.TheVariants.{EditorBegan}
use Rattle.editor_seat.specs.Joining as new
use Rattle.kept_world.specs.Moves.{IsNewClient}
use Rattle.kept_world.specs.Worlds.{KeptHost, KeptEditor, KeptWorld, running, with_host}
use Rattle.kept_world.proofs.HostLemmas.{running_set}
use Rattle.daemon_world.proofs.OwnMoveLemmas.{joined_made}
use Rattle.daemon_world.proofs.machine.Machine.join.Goals as goal

pub add-requires-clause-runs : goal.add-requires-clause-runs
add-requires-clause-runs c =
    let k : KeptWorld = c.args.self.now in
    let h : KeptHost = c.in-Some.host.now in
    let runs : running k c.args.d ≡ Some h = sym c.in-Some.ensures in
    let next : KeptHost = record h { state = (serve h.state (EditorBegan c.in_ok-n.n)).state } in
    ap (λ (x : KeptEditor). is_some (running c.begin_at.new.self x.daemon)) c.in_ok-editor.ensures.ok
    ∙ ap (λ (w : KeptWorld). is_some (running w c.args.d)) (c.in_ok-begin_at.ensures h runs)
    ∙ ap is_some (running_set k (with_host k c.args.d next) c.args.d h next runs refl)

pub returns : goal.returns
returns c =
    let k : KeptWorld = c.args.self.now in
    let a = c.args in
    let h : KeptHost = c.in-Some.host.now in
    let n = c.in_ok-n.n in
    let text = c.in_ok-text.text in
    let runs : running k a.d ≡ Some h = sym c.in-Some.ensures in
    let editor_is : c.in_ok-editor.editor ≡ new.joined h.state.base a.d a.path.now n a.text.now =
    c.in_ok-editor.ensures.ok ∙ ap (λ b. new.joined b a.d a.path.now n text) c.base.ensures ∙ ap (new.joined h.state.base a.d a.path.now n) c.in_ok-text.ensures in
    let client = subst (λ (t : List ℕ). IsNewClient h.state.base a.path.now t) c.in_ok-text.ensures
    (subst (λ b. IsNewClient b a.path.now text) c.base.ensures c.in_ok-editor.ensures.client) in
    joined_made c.add.result k c.begin_at.new.self c.add.new.self a.d n a.path.now a.text.now h c.in_ok-editor.editor runs c.requires c.in_ok-n.ensures editor_is
    (c.in_ok-begin_at.ensures h runs) c.add.ensures client
