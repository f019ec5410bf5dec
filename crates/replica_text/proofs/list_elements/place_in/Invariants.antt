use Rattle.std.proofs.Common.{take}
use Rattle.tt_base.specs.Elements.{IsNew}
use Rattle.replica_text.proofs.list_elements.place_in.Given as goal

abbrev pub invariant-loop-place : goal.invariant-loop-place
invariant-loop-place l = IsNew l.id (take l.place l.items)
