use Rattle.std.proofs.Common.{ap}
use Rattle.daemon_core.specs.Serving.{or_refusal}
use Rattle.daemon_core.proofs.laws.refusals_change_nothing.Goals as goal

pub returns : goal.returns
returns c = λ s n message refused is. record {
  files = ap (λ r. (or_refusal s r).history) is;
  untold = ap (λ r. (or_refusal s r).effects) is;
}
