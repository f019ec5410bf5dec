use Rattle.std.proofs.Common.{sym, ◌∙◌, arith}
use Rattle.text_position.proofs.LineLemmas.{start-within, offset-past-text, offset-found, offset-missed}
use Rattle.text_position.proofs.places.offset_at.Goals as goal

pub overflow_sub-len : goal.overflow_sub-len
overflow_sub-len c =
    let within = start-within c.args.text.now c.args.p.line c.in_ok-start.start (sym c.behind_line_ends.ensures ∙ c.in_ok-start.was) in omega (arith, within, c.len.ensures)

pub returns-then-p-len : goal.returns-then-p-len
returns-then-p-len c =
    sym (offset-past-text c.args.text.now c.args.p c.in_ok-start.start (sym c.behind_line_ends.ensures ∙ c.in_ok-start.was) (omega (arith, c.if-p-len.true, c.len.ensures)))

pub line_ends_before-requires : goal.line_ends_before-requires
line_ends_before-requires c =
    let within = start-within c.args.text.now c.args.p.line c.in_ok-start.start (sym c.behind_line_ends.ensures ∙ c.in_ok-start.was) in
    omega (arith, within, c.if-p-len.false, c.len.ensures)

pub returns-then-line_ends_before-line : goal.returns-then-line_ends_before-line
returns-then-line_ends_before-line c =
    sym (offset-found c.args.text.now c.args.p c.in_ok-start.start (sym c.behind_line_ends.ensures ∙ c.in_ok-start.was) (omega (arith, c.if-p-len.false, c.len.ensures))
    (sym c.line_ends_before.ensures ∙ c.if-line_ends_before-line.true))

pub returns-else-line_ends_before-line : goal.returns-else-line_ends_before-line
returns-else-line_ends_before-line c =
    sym (offset-missed c.args.text.now c.args.p c.in_ok-start.start (sym c.behind_line_ends.ensures ∙ c.in_ok-start.was)
    (λ same. c.if-line_ends_before-line.false (c.line_ends_before.ensures ∙ same)))
