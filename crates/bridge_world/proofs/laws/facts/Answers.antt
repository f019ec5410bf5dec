use Rattle.bridge_world.proofs.LawLemmas.{facts_hold}
use Rattle.bridge_world.proofs.laws.facts.Goals as goal

pub returns : goal.returns
returns c = facts_hold
