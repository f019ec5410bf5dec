use Rattle.std.proofs.Common.{◌≡◌, take}
use Rattle.replica_text.specs.Effect.{text_of}
use Rattle.replica_text.proofs.texts.visible_text.Given as goal

abbrev pub invariant-loop-place : goal.invariant-loop-place
invariant-loop-place g l = l.chars.items ≡ text_of (take l.place (g.E.Elements.elements l.elements))
