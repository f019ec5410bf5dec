use Rattle.delta.proofs.LawLemmas.{marks_fix}
use Rattle.delta.proofs.laws.marks_fix_normal_delta.Goals as goal

pub returns : goal.returns
returns c = marks_fix
