use Rattle.name_table.proofs.RowLemmas.{number_of-is}
use Rattle.name_table.proofs.tables.NameTable.find_word.Goals as goal

pub returns-clause-row : goal.returns-clause-row
returns-clause-row g c = λ number. rw (c.number_in.ensures, ← c.self.view_is) (number_of-is c.args.word.now _ c.self.invariant.1 number)
