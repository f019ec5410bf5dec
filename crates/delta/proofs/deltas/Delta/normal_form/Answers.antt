use Rattle.std.proofs.Common.{subst}
use Rattle.delta.specs.Cells.{IsNormal}
use Rattle.delta.proofs.StepsLemmas.{IsNormal-cells_of}
use Rattle.delta.proofs.deltas.Delta.normal_form.Goals as goal

pub returns : goal.returns
returns c =
    let steps = c.steps-steps.result.now in
    let told = c.steps-steps.ensures in
    subst IsNormal told.cells (IsNormal-cells_of steps told.canonical)
