use Rattle.transform.proofs.MergedLemmas.{base_length-after_editor, base_length-after_daemon, results_meet}
use Rattle.transform.proofs.laws.carried_deltas_have_lengths.Goals as goal

pub returns-clause-editor : goal.returns-clause-editor
returns-clause-editor c = base_length-after_editor

pub returns-clause-daemon : goal.returns-clause-daemon
returns-clause-daemon c = base_length-after_daemon

pub returns-clause-results : goal.returns-clause-results
returns-clause-results c = results_meet
