use Rattle.std.proofs.Common.{[], ◌∷◌, sym, ◌∙◌}
use Rattle.replay_script.specs.Arguments.{Path, Text, read_all}
use Rattle.replay_script.specs.Cut.{Parts}
use Rattle.replay_script.proofs.Reading.{handed_on, second_missing, first_refused}
use Rattle.replay_script.proofs.arguments.path_and_text.Goals as goal

pub returns-then-not-is_text : goal.returns-then-not-is_text
returns-then-not-is_text c =
    let parts : Parts = record { argument = c.in-Some.parts.argument.now; rest = c.in-Some.parts.rest.now } in
    second_missing Path Text c.args.text.now parts (sym c.in-Some.ensures) (sym c.is_text.ensures ∙ c.if-not-is_text.true)

pub returns-in_err-path : goal.returns-in_err-path
returns-in_err-path c =
    let parts : Parts = record { argument = c.in-Some.parts.argument.now; rest = c.in-Some.parts.rest.now } in
    let fault = c.in_err-path.field-0.0 in
    handed_on (λ values. (values.0, (values.1, tt))) c.from_residual.result fault (read_all (Path ∷ Text ∷ []) c.args.text.now) c.from_residual.ensures.1
    (first_refused Path Text c.args.text.now parts fault (sym c.in-Some.ensures) (sym c.is_text.ensures ∙ c.if-not-is_text.false) c.in_err-path.ensures)
