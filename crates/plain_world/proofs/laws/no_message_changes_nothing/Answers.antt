use Rattle.plain_world.proofs.HostileLemmas.{no_message_changes_nothing as law}
use Rattle.plain_world.proofs.laws.no_message_changes_nothing.Goals as goal

pub returns : goal.returns
returns c = law
