use Rattle.kept_world.proofs.LawLemmas.{beginnings_are_alike}
use Rattle.kept_world.proofs.laws.beginnings_are_alike.Goals as goal

pub returns : goal.returns
returns c = beginnings_are_alike
