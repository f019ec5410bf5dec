use Rattle.text_position.proofs.LawLemmas.{refusal_tells_first, first_bad_is_refused}
use Rattle.text_position.proofs.laws.first_bad_edit_is_refused.Goals as goal

pub returns-clause-first : goal.returns-clause-first
returns-clause-first c = refusal_tells_first

pub returns-clause-refused : goal.returns-clause-refused
returns-clause-refused c = first_bad_is_refused
