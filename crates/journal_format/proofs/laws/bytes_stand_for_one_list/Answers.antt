use Rattle.journal_format.proofs.Unique.{one_image}
use Rattle.journal_format.proofs.laws.bytes_stand_for_one_list.Goals as goal

pub returns : goal.returns
returns c = one_image
