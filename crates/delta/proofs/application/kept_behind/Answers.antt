use Rattle.std.proofs.Common.{[], ◌∷◌, ◌++◌, ap, sym, ◌∙◌}
use Rattle.delta.specs.Steps.{cells_of}
use Rattle.delta.specs.declared.steps.DeltaStep.TheVariants.{Keep}
use Rattle.delta.proofs.CellsLemmas.{joined_nothing}
use Rattle.delta.proofs.StepsLemmas.{cells_of-append}
use Rattle.delta.proofs.application.kept_behind.Goals as goal

pub returns-in-Some-Keep-default : goal.returns-in-Some-Keep-default
returns-in-Some-Keep-default c =
    ap cells_of c.in-Some-Keep-default.ensures.cases.0
    ∙ ap (λ s. cells_of (c.in-Some-Keep-default.changes.now ++ s ∷ [])) c.in-Some-Keep-default.field-0-0-is
    ∙ cells_of-append c.in-Some-Keep-default.changes.now (Keep c.in-Some-Keep-default.n ∷ [])

pub returns-in_default : goal.returns-in_default
returns-in_default c = sym (joined_nothing (cells_of c.args.steps.now))
