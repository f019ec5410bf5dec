use Rattle.std.proofs.Common.{ℕ, List, subst}
use Rattle.daemon_server.specs.Parts.{state_of}
use Rattle.daemon_server.specs.Telling.{Serves}
use Rattle.daemon_server.proofs.DaemonLemmas.{heard_serving}
use Rattle.daemon_server.proofs.daemons.Daemon.hear.Goals as goal

pub invariant_of-self-2 : goal.invariant_of-self-2
invariant_of-self-2 c =
    heard_serving c.self.inside.base c.self.inside.files c.make_change.new.files c.self.inside.connections c.replace-connections.result c.serve_frame.new.connections
    c.args.n c.args.body.now c.in_ok-served.served c.self.invariant c.replace-connections.ensures.value
    (subst (λ (b : List ℕ).
    Serves (state_of c.self.inside.base c.self.inside.files c.replace-connections.result) c.args.n b c.serve_frame.new.connections c.in_ok-served.served)
    c.as_slice.ensures c.in_ok-served.ensures)
    c.in_ok-make_change.ensures.ok
