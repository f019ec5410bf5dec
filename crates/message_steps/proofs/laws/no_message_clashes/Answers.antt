use Rattle.message_steps.proofs.ClashLemmas.{no_clash}
use Rattle.message_steps.proofs.laws.no_message_clashes.Goals as goal

pub returns : goal.returns
returns c = no_clash
