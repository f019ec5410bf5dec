use Rattle.std.proofs.Common.{◌≡◌, sym, subst}
use Rattle.std.proofs.lemmas.Result.{on_ok_weaker}
use Rattle.delta.specs.Cells.{Cells, joined, inserting}
use Rattle.delta.specs.Steps.{cells_of}
use Rattle.delta.specs.Composing.{Composes}
use Rattle.delta.specs.declared.steps.DeltaStep.TheVariants.{Insert}
use Rattle.delta.proofs.ComposingLemmas.{Composes-text}
use Rattle.delta.proofs.composition.compose_step.Goals as goal

pub returns-in-Insert : goal.returns-in-Insert
returns-in-Insert c =
    let a : Cells = cells_of c.args.first.now in
    let text = c.in-Insert.text in
    on_ok_weaker c.insert.result (λ (built : c.insert.new.self ≡ joined c.args.built.now (inserting text)).
    subst (λ s. Composes s c.args.built.now c.insert.new.self a a) (sym c.in-Insert.is)
    (subst (λ b. Composes (Insert text) c.args.built.now b a a) (sym built) (Composes-text text c.args.built.now a))) c.insert.ensures.ok
