use Rattle.daemon_history.proofs.HoldingLemmas.{made_changes_one}
use Rattle.daemon_history.proofs.laws.a_made_change_changes_one_text.Goals as goal

pub returns : goal.returns
returns c = made_changes_one
