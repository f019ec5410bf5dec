use Rattle.std.proofs.Common.{[], ◌∷◌, sym, ◌∙◌}
use Rattle.replay_script.specs.Arguments.{Path, Contents, read_all}
use Rattle.replay_script.specs.Cut.{Parts}
use Rattle.replay_script.proofs.Reading.{handed_on, second_missing, first_refused, second_refused}
use Rattle.replay_script.proofs.arguments.path_and_content.Goals as goal

pub returns-then-not-is_content : goal.returns-then-not-is_content
returns-then-not-is_content c =
    let parts : Parts = record { argument = c.in-Some.parts.argument.now; rest = c.in-Some.parts.rest.now } in
    second_missing Path Contents c.args.text.now parts (sym c.in-Some.ensures) (sym c.is_content.ensures ∙ c.if-not-is_content.true)

pub returns-in_err-path : goal.returns-in_err-path
returns-in_err-path c =
    let parts : Parts = record { argument = c.in-Some.parts.argument.now; rest = c.in-Some.parts.rest.now } in
    let fault = c.in_err-path.field-0.0 in
    handed_on (λ values. (values.0, (values.1, tt))) c.from_residual.result fault (read_all (Path ∷ Contents ∷ []) c.args.text.now) c.from_residual.ensures.1
    (first_refused Path Contents c.args.text.now parts fault (sym c.in-Some.ensures) (sym c.is_content.ensures ∙ c.if-not-is_content.false) c.in_err-path.ensures)

pub returns-in_err-content : goal.returns-in_err-content
returns-in_err-content c =
    let parts : Parts = record { argument = c.in-Some.parts.argument.now; rest = c.in-Some.parts.rest.now } in
    let fault = c.in_err-content.field-0.0 in
    handed_on (λ values. (values.0, (values.1, tt))) c.from_residual-in_err-content.result fault (read_all (Path ∷ Contents ∷ []) c.args.text.now) c.from_residual-in_err-content.ensures.1
    (second_refused Path Contents c.args.text.now parts fault _ (sym c.in-Some.ensures) c.in_ok-path.ensures c.in_err-content.ensures)
