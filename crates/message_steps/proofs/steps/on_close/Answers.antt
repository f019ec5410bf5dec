use Rattle.message_steps.proofs.StepLemmas.{close_none}
use Rattle.message_steps.proofs.steps.on_close.Goals as goal

pub returns-in_default : goal.returns-in_default
returns-in_default c = λ files view.
    close_none c.args.base.now view c.args.own.now c.close.new.self c.args.uri.now c.in_ok-path.path c.in_ok-path.ensures.ok c.in_default.ensures.link c.close.ensures.gone
