use Rattle.daemon_server.proofs.StepLemmas.{close_none}
use Rattle.daemon_server.proofs.steps.on_close.Goals as goal

pub returns-in_default : goal.returns-in_default
returns-in_default c = λ h.
    close_none c.args.base.now h c.args.own.now c.close.new.self c.args.uri.now c.in_ok-path.path c.in_ok-path.ensures.ok c.in_default.ensures.link c.close.ensures.gone
