use Rattle.bridge_world.proofs.Moves.{refines}
use Rattle.bridge_world.proofs.LawLemmas.{takes_are_alike, shows_are_alike}
use Rattle.bridge_world.proofs.laws.bridge.Goals as goal

pub returns-clause-refines : goal.returns-clause-refines
returns-clause-refines c = refines

pub returns-clause-takes : goal.returns-clause-takes
returns-clause-takes c = takes_are_alike

pub returns-clause-shows : goal.returns-clause-shows
returns-clause-shows c = shows_are_alike
