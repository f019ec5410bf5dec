use Rattle.delta.specs.declared.steps.DeltaStep.TheVariants.{Keep}
use Rattle.delta.proofs.BuilderLemmas.{push_keep, push_base}
use Rattle.delta.proofs.builders.DeltaBuilder.keep.Goals as goal

pub invariant_of-self-2 : goal.invariant_of-self-2
invariant_of-self-2 c =
    push_base c.self.inside.steps.items _ (Keep c.args.n) c.self.inside.base c.in_ok-push.ensures.items c.self.invariant

pub returns-clause-ok : goal.returns-clause-ok
returns-clause-ok c =
    push_keep c.self.inside.steps.items _ c.args.n c.args.self.now c.in_ok-push.ensures.items c.self.view_is
