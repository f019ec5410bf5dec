use Rattle.std.proofs.Common.{sym, ap, ◌∙◌}
use Rattle.delta.specs.Cells.{base_length, applied}
use Rattle.delta.proofs.ComposedLemmas.{base_length-composed, applied-composed}
use Rattle.text_position.proofs.edit_lists.then_edit.Goals as goal

pub compose-requires : goal.compose-requires
compose-requires c = sym (c.in_ok-next.ensures.base ∙ c.requires)

pub returns-clause-base : goal.returns-clause-base
returns-clause-base c =
    ap base_length c.in_ok-delta.ensures ∙ base_length-composed c.args.so_far.now c.in_ok-next.next

pub returns-clause-reached : goal.returns-clause-reached
returns-clause-reached c = λ text long is.
    c.in_ok-apply_in_place.ensures
    ∙ ap (applied c.in_ok-next.next) is
    ∙ sym (applied-composed c.args.so_far.now c.in_ok-next.next text (sym long))
    ∙ ap (λ d. applied d text) (sym c.in_ok-delta.ensures)
