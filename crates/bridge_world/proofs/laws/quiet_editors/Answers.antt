use Rattle.bridge_world.proofs.LawLemmas.{quiet_shows_view}
use Rattle.bridge_world.proofs.laws.quiet_editors.Goals as goal

pub returns : goal.returns
returns c = quiet_shows_view
