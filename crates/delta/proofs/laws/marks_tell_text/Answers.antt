use Rattle.delta.proofs.NormalLemmas.{marks_from-normal}
use Rattle.delta.proofs.LawLemmas.{marks_tell}
use Rattle.delta.proofs.laws.marks_tell_text.Goals as goal

pub returns-clause-normal : goal.returns-clause-normal
returns-clause-normal c = marks_from-normal 0

pub returns-clause-text : goal.returns-clause-text
returns-clause-text c = marks_tell
