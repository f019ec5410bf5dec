use Rattle.std.proofs.Common.{◌-◌, length}
use Rattle.replica_text.proofs.texts.tests.+is_above.Given as goal

abbrev pub decreases-is_above : goal.decreases-is_above
decreases-is_above g l = length (g.E.Elements.elements l.elements.now) - l.place
