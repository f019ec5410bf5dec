-- What is computed of the line is what the grammar says of it.
use Rattle.std.proofs.Common.{rules}
use Rattle.replay_script.proofs.Answering.{answered}
use Rattle.replay_script.proofs.LineGrammar.{move_spelled, nothing_spelled}
use Rattle.replay_script.proofs.lines.read_line.Goals as goal

pub returns-then-is_empty-clause-grammar : goal.returns-then-is_empty-clause-grammar
returns-then-is_empty-clause-grammar c = nothing_spelled c.args.line.now (search rules)

pub returns-in_err-moved-clause-grammar : goal.returns-in_err-moved-clause-grammar
returns-in_err-moved-clause-grammar c = answered c.args.line.now c.from_residual.result c.utf8.line (search rules)

pub returns-clause-grammar : goal.returns-clause-grammar
returns-clause-grammar c = move_spelled c.args.line.now c.in_ok-moved.moved c.utf8.line (search rules)
