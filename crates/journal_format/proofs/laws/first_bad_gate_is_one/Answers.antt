use Rattle.journal_format.proofs.Unique.{one_bad_gate}
use Rattle.journal_format.proofs.laws.first_bad_gate_is_one.Goals as goal

pub returns : goal.returns
returns c = one_bad_gate
