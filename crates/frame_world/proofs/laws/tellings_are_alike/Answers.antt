use Rattle.frame_world.proofs.ChangeLemmas.{one_change}
use Rattle.frame_world.proofs.TellLemmas.{tellings_are_alike}
use Rattle.frame_world.proofs.laws.tellings_are_alike.Goals as goal

pub returns-clause-tellings : goal.returns-clause-tellings
returns-clause-tellings c = tellings_are_alike

pub returns-clause-changes : goal.returns-clause-changes
returns-clause-changes c = one_change
