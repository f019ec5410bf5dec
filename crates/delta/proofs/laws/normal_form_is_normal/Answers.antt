use Rattle.delta.proofs.NormalLemmas.{IsNormal-normal, normal_is_fixed, normal-normal}
use Rattle.delta.proofs.laws.normal_form_is_normal.Goals as goal

pub returns-clause-normal : goal.returns-clause-normal
returns-clause-normal c = IsNormal-normal

pub returns-clause-fixed : goal.returns-clause-fixed
returns-clause-fixed c = normal_is_fixed

pub returns-clause-idempotent : goal.returns-clause-idempotent
returns-clause-idempotent c = normal-normal
