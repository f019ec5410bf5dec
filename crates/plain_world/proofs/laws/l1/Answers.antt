use Rattle.plain_world.proofs.LawLemmas.{quiet_shows_file}
use Rattle.plain_world.proofs.laws.l1.Goals as goal

pub returns : goal.returns
returns c = quiet_shows_file
