use Rattle.std.proofs.Common.{refl, arith}
use Rattle.delta.specs.declared.steps.DeltaStep.TheVariants.{Insert}
use Rattle.delta.proofs.BuilderLemmas.{push_insert, push_base}
use Rattle.delta.proofs.builders.DeltaBuilder.insert_text.Goals as goal

pub invariant_of-self-2 : goal.invariant_of-self-2
invariant_of-self-2 c =
    omega (arith, push_base c.self.inside.steps.items _ (Insert c.args.text) c.self.inside.base c.in_ok-push.ensures.items c.self.invariant)

pub returns-clause-ok : goal.returns-clause-ok
returns-clause-ok c =
    push_insert c.self.inside.steps.items _ c.args.text c.args.text c.args.self.now c.in_ok-push.ensures.items refl c.self.view_is
