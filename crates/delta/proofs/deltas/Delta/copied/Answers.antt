use Rattle.std.proofs.Common.{◌≡◌, sym, ◌∙◌, subst, take}
use Rattle.std.proofs.lemmas.List.{take_all}
use Rattle.delta.specs.Steps.{IsWritten}
use Rattle.delta.proofs.deltas.Delta.copied.Goals as goal

pub invariant_of-result : goal.invariant_of-result
invariant_of-result c =
    let all : take c.loop-step.step-index c.as_slice-step-items.result.now ≡ c.as_slice-step-items.result.now = take_all _ _ c.loop-step-test.false in
    let same : c.self.inside.steps ≡ c.from_vec.result = sym (c.from_vec.ensures ∙ c.loop-step.invariant ∙ all ∙ c.as_slice-step-items.ensures) in
    subst (λ steps. IsWritten c.self.inside.base steps) same c.self.invariant
