use Rattle.transform.proofs.GapLemmas.{editor_by_gaps_is, daemon_by_gaps_is}
use Rattle.transform.proofs.laws.gaps_and_cells_are_one.Goals as goal

pub returns-clause-editor : goal.returns-clause-editor
returns-clause-editor c = editor_by_gaps_is

pub returns-clause-daemon : goal.returns-clause-daemon
returns-clause-daemon c = daemon_by_gaps_is
