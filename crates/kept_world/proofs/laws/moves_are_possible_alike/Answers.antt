use Rattle.kept_world.proofs.LawLemmas.{moves_are_possible_alike}
use Rattle.kept_world.proofs.laws.moves_are_possible_alike.Goals as goal

pub returns : goal.returns
returns c = moves_are_possible_alike
