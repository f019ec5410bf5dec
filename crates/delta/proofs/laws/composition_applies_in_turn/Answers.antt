use Rattle.delta.proofs.ComposedLemmas.{applied-composed}
use Rattle.delta.proofs.laws.composition_applies_in_turn.Goals as goal

pub returns : goal.returns
returns c = applied-composed
