use Rattle.journal_format.proofs.Unique.{bad_is_no_image}
use Rattle.journal_format.proofs.laws.bad_bytes_stand_for_nothing.Goals as goal

pub returns : goal.returns
returns c = bad_is_no_image
