use Rattle.kept_world.proofs.GoesUpLemmas.{up_alike}
use Rattle.kept_world.proofs.HearLemmas.{hears_alike}
use Rattle.kept_world.proofs.LawLemmas.{moves_from}
use Rattle.kept_world.proofs.laws.moves_are_alike.Goals as goal

pub returns : goal.returns
returns c = moves_from up_alike hears_alike
