use Rattle.transform.proofs.MergedLemmas.{editor_past_nothing, daemon_past_nothing}
use Rattle.transform.proofs.laws.past_nothing_is_same.Goals as goal

pub returns-clause-editor : goal.returns-clause-editor
returns-clause-editor c = editor_past_nothing

pub returns-clause-daemon : goal.returns-clause-daemon
returns-clause-daemon c = daemon_past_nothing
