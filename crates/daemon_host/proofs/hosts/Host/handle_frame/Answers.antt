use Rattle.std.proofs.Common.{◌≡◌, IfOk, sym, ap, subst}
use Rattle.std.proofs.lemmas.Result.{IfOk-weaker}
use Rattle.daemon_core.specs.Outputs.{Served, serve}
use Rattle.daemon_core.specs.State.{State}
use Rattle.daemon_core.specs.declared.events.Event.TheVariants.{EditorFrame}
use Rattle.kept_world.specs.Worlds.{KeptHost}
use Rattle.daemon_host.proofs.hosts.Host.handle_frame.Goals as goal

pub returns-clause-outputs : goal.returns-clause-outputs
returns-clause-outputs c =
    let event = EditorFrame c.args.n c.args.body in
    let s : State = c.self.inside.daemon in
    subst (λ (t : State). IfOk c.handle.result (λ outputs. outputs ≡ (serve t event).outputs)) (ap (λ (h : KeptHost). h.state) c.self.view_is)
    (IfOk-weaker c.handle.result (λ outputs. serve s event ≡ record { state = c.handle.new.self; outputs = outputs }) (λ outputs. outputs ≡ (serve s event).outputs)
    (λ outputs is. sym (ap (λ (v : Served). v.outputs) is)) c.handle.ensures.ok)
