use Rattle.std.proofs.Common.{refl}
use Rattle.daemon_events.proofs.RefusalLemmas.{notifications_do_the_same}
use Rattle.daemon_events.proofs.laws.notifications_do_the_same.Goals as goal

pub returns-clause-same : goal.returns-clause-same
returns-clause-same c = notifications_do_the_same

pub returns-clause-reply : goal.returns-clause-reply
returns-clause-reply c = λ answer. refl
