use Rattle.transform.proofs.ListLemmas.{IsNormal-after_editor, IsNormal-after_daemon}
use Rattle.transform.proofs.laws.carried_deltas_are_normal.Goals as goal

pub returns-clause-editor : goal.returns-clause-editor
returns-clause-editor c = λ q p. IsNormal-after_editor p q

pub returns-clause-daemon : goal.returns-clause-daemon
returns-clause-daemon c = IsNormal-after_daemon
