use Rattle.transform.proofs.MergedLemmas.{daemon_then_editor, editor_then_daemon}
use Rattle.transform.proofs.laws.both_ways_merge.Goals as goal

pub returns-clause-daemon_first : goal.returns-clause-daemon_first
returns-clause-daemon_first c = daemon_then_editor

pub returns-clause-editor_first : goal.returns-clause-editor_first
returns-clause-editor_first c = editor_then_daemon
