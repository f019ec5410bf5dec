use Rattle.std.proofs.Common.{◌≡◌, take, map}
use Rattle.serde_json.specs.View.{view}
use Rattle.rpc_message.specs.Values.{range}
use Rattle.rpc_message.proofs.requests.range_values.Given as goal

-- the values are those of the ranges so far
abbrev pub invariant-loop-range : goal.invariant-loop-range
invariant-loop-range l = map view l.list.items ≡ map range (take l.range-index l.ranges)
