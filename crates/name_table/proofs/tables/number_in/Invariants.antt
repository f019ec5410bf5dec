-- No row before the index has the word: the rows from there on give what all give.
use Rattle.std.proofs.Common.{◌≡◌, drop}
use Rattle.name_table.specs.Rows.{number_of}
use Rattle.name_table.specs.Written.{rows_of}
use Rattle.name_table.proofs.tables.number_in.Given as goal

abbrev pub invariant-loop-number : goal.invariant-loop-number
invariant-loop-number l = number_of l.word (rows_of (drop l.number-index l.rows)) ≡ number_of l.word (rows_of l.rows)
