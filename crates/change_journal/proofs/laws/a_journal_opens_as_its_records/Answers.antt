use Rattle.change_journal.proofs.Opened.{opens_as, opens_marked, opens_good}
use Rattle.change_journal.proofs.laws.a_journal_opens_as_its_records.Goals as goal

pub returns : goal.returns
returns c = record { records = opens_as; marked = opens_marked; good = opens_good }
