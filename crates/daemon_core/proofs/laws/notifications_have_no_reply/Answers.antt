use Rattle.std.proofs.Common.{refl}
use Rattle.daemon_core.proofs.RefusalLemmas.{notifications_do_the_same}
use Rattle.daemon_core.proofs.laws.notifications_have_no_reply.Goals as goal

pub returns-clause-reply : goal.returns-clause-reply
returns-clause-reply c = λ answer. refl

pub returns-clause-same : goal.returns-clause-same
returns-clause-same c = notifications_do_the_same
