-- No row before the index has the number: the rows from there on give what all give.
use Rattle.std.proofs.Common.{◌≡◌, drop}
use Rattle.name_table.specs.Rows.{word_of}
use Rattle.name_table.specs.Written.{rows_of}
use Rattle.name_table.proofs.tables.word_in.Given as goal

abbrev pub invariant-loop-held : goal.invariant-loop-held
invariant-loop-held l = word_of l.number (rows_of (drop l.held-index l.rows)) ≡ word_of l.number (rows_of l.rows)
