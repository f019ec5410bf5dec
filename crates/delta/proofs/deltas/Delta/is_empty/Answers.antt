use Rattle.std.proofs.Common.{rules, tests, ap, ◌∙◌}
use Rattle.std.proofs.lemmas.Iterator.{YieldsList-from_slice}
use Rattle.std.proofs.lemmas.Iterator.Search.{all_from_yields_List}
use Rattle.delta.specs.Cells.{changes_nothing}
use Rattle.delta.specs.Steps.{is_keep}
use Rattle.delta.proofs.StepsLemmas.{changes_nothing-cells_of}
use Rattle.delta.proofs.deltas.Delta.is_empty.Goals as goal

pub returns : goal.returns
returns c =
    let steps = c.self.inside.steps in
    all_from_yields_List is_keep _ _ c.all.result c.all.ensures.ran (YieldsList-from_slice steps (c.iter.ensures.rest ∙ c.as_slice.ensures)) (λ x b q k. search (rules, tests))
    ∙ changes_nothing-cells_of steps c.self.invariant.canonical
    ∙ ap changes_nothing c.self.view_is
