use Rattle.std.proofs.Common.{◌≡◌, ℕ, ◌<◌, None}
use Rattle.change_graph.specs.Refusals.{fault_at}
use Rattle.change_graph.specs.Walk.{is_known}
use Rattle.change_graph.proofs.survey.first_fault.Given as goal

abbrev pub invariant-loop-place : goal.invariant-loop-place
invariant-loop-place l =
    (earlier : ℕ) → earlier < l.place → fault_at l.nodes.history (is_known l.nodes l.outside.keys) l.ops earlier ≡ None
