use Rattle.std.proofs.Common.{◌≡◌, ◌+◌, take}
use Rattle.std.specs.List.{count_by}
use Rattle.tt_base.specs.Elements.{is_alive}
use Rattle.replica_text.proofs.list_elements.nth_in.Given as goal

abbrev pub invariant-loop-place : goal.invariant-loop-place
invariant-loop-place l = l.left + count_by is_alive (take l.place l.items) ≡ l.k
