use Rattle.std.proofs.Common.{ap, ◌∙◌, arith}
use Rattle.delta.specs.Cells.{base_length}
use Rattle.text_position.proofs.EditLemmas.{base_length-replacing}
use Rattle.text_position.proofs.edit_lists.delta_of_edit.Goals as goal

pub returns-clause-base : goal.returns-clause-base
returns-clause-base c =
    ap base_length c.in_ok-delta.ensures
    ∙ base_length-replacing c.len.result c.in_ok-start.start c.in_ok-start.end c.args.edit.now.replacement c.in_ok-start.ensures.forward (omega (arith, c.in_ok-start.ensures.within, c.len.ensures))
    ∙ c.len.ensures
