use Rattle.name_table.proofs.RowLemmas.{word_of-is}
use Rattle.name_table.proofs.tables.NameTable.find_number.Goals as goal

pub returns-clause-row : goal.returns-clause-row
returns-clause-row g c = λ word. rw (c.word_in.ensures, ← c.self.view_is) (word_of-is c.args.number _ c.self.invariant.1 word)
