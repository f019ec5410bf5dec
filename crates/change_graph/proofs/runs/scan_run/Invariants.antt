use Rattle.std.proofs.Common.{◌≡◌, map, drop}
use Rattle.change_graph.specs.Refusals.{things, thing_seen}
use Rattle.change_graph.specs.Runs.{told}
use Rattle.change_graph.proofs.runs.scan_run.Given as goal

abbrev pub invariant-loop-op : goal.invariant-loop-op
invariant-loop-op l =
    told l.object l.scan (map (thing_seen l.from) (things (drop l.op-index l.ops))) ≡ told l.object l.initial.scan (map (thing_seen l.from) (things l.ops))
