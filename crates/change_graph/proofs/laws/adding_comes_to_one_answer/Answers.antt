use Rattle.change_graph.proofs.AnswerLemmas.{one_answer}
use Rattle.change_graph.proofs.laws.adding_comes_to_one_answer.Goals as goal

pub returns : goal.returns
returns c = λ old new other_new change answer other first second. one_answer old change first second
