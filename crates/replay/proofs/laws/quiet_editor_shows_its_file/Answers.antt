use Rattle.replay.proofs.RunMoves.{quiet_editor_shows_its_file as law}
use Rattle.replay.proofs.laws.quiet_editor_shows_its_file.Goals as goal

pub returns : goal.returns
returns c = law
